-- What bytes mean, in the paper's words. Read in this order.
pub mod Limits
pub mod FirstBytes
pub mod Tree
pub mod Reading
pub mod Writing
pub mod Packing
pub mod Sizes
