-- The laws of lines, by subject; the crates above cite them too.
pub mod Decimals
pub mod Fields
pub mod Hexes
pub mod Stepping
pub mod Passing
pub mod Laying
pub mod Sharing
pub mod Appending
pub mod Exact
pub mod Chains
