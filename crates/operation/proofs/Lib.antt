-- The laws of the definitions, by subject; the crates above cite them too.
pub mod FirstBytes
pub mod Reading
pub mod Sizes
pub mod WellFormed
pub mod Depth
pub mod Writing
pub mod Exact
pub mod Packing
