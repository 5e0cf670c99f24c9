-- The laws of what states have in common, by subject; the crates above cite them too.
pub mod InSize
pub mod Holding
pub mod KeptCounts
