-- The laws of the hub, by subject; the crates above cite them too.
pub mod Totals
pub mod Numbering
pub mod GoodShape
pub mod Submitting
pub mod Fetching
pub mod Copying
pub mod KeptRing
pub mod Keeping
pub mod Fresh
pub mod Histories
pub mod Unique
