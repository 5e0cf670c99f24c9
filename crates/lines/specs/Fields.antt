-- How the parts of a line are written, and read back. Assumes nothing: these are definitions.
use Rattle.std.specs.Prelude.{ℕ, zero, suc, ◌+◌, ◌-◌, ◌*◌, ◌&&◌, List, [], ◌∷◌, ◌++◌, ltb, leb, eqb, if◌then◌else◌}
use Rattle.lines.specs.Decimals.{decimal}
use Rattle.lines.specs.Hex.{is_hex, hex_value}

abbrev pub LF : ℕ
LF = 10

-- what reading gives: a value, and the text after it; or that it is wrong
pub data Read (A : Type 0) : Type 0 where
  got : A → List ℕ → Read A
  wrong : Read A

-- a field: the key, the number, and the byte that ends it
unfoldable pub field_of : List ℕ → ℕ → ℕ → List ℕ
field_of key end n = key ++ (decimal n ++ (end ∷ []))

-- after the digits of v (at least one), with the number at most top: the end ends it, and a digit goes on unless v is 0
unfoldable pub digits : ℕ → ℕ → ℕ → List ℕ → Read ℕ
digits top end v [] = wrong
digits top end v (b ∷ t) =
    if eqb b end then got v t
    else (if leb 48 b && (leb b 57 && (ltb 0 v && leb (v * 10 + (b - 48)) top))
    then digits top end (v * 10 + (b - 48)) t
    else wrong)

-- a number from low (0 or 1) to top, and its end
unfoldable pub number : ℕ → ℕ → ℕ → List ℕ → Read ℕ
number low top end [] = wrong
number low top end (b ∷ t) =
    if leb (48 + low) b && (leb b 57 && leb (b - 48) top) then digits top end (b - 48) t else wrong

-- the key, then the number
unfoldable pub field : List ℕ → ℕ → ℕ → ℕ → List ℕ → Read ℕ
field [] low top end t = number low top end t
field (k ∷ ks) low top end [] = wrong
field (k ∷ ks) low top end (b ∷ t) = if eqb b k then field ks low top end t else wrong

-- one byte before what is read
unfoldable pub and_byte : ℕ → Read (List ℕ) → Read (List ℕ)
and_byte b wrong = wrong
and_byte b (got bs r) = got (b ∷ bs) r

-- at most k bytes, each two hexadecimal digits, and LF
unfoldable pub hex_line : ℕ → List ℕ → Read (List ℕ)
hex_line k [] = wrong
hex_line zero (a ∷ t) = if eqb a LF then got [] t else wrong
hex_line (suc k) (a ∷ []) = if eqb a LF then got [] [] else wrong
hex_line (suc k) (a ∷ b ∷ t) =
    if eqb a LF then got [] (b ∷ t)
    else (if is_hex a && is_hex b then and_byte (hex_value a * 16 + hex_value b) (hex_line k t)
    else wrong)
