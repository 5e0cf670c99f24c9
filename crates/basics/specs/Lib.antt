-- General definitions, each of which several crates cite.
pub mod Every
pub mod Counts
pub mod Sums
pub mod Over
pub mod Refusals
