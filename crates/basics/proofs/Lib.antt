-- The laws of the general definitions, by subject, for the proofs of every crate.
pub mod Choice
pub mod Every
pub mod Counts
pub mod Sums
pub mod Over
pub mod Refusals
pub mod Places
