-- What the programs that run trials take in.
pub mod Split
