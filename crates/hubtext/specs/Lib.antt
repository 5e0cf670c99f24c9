-- The hub's text, in the paper's words. Read in this order.
pub mod Keys
pub mod Values
pub mod Writing
pub mod Reading
pub mod Saving
pub mod Real
