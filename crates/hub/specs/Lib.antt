-- The hub, in the paper's words. Read in this order.
pub mod Ring
pub mod Shape
pub mod Telling
pub mod Starting
pub mod Submitting
pub mod Fetching
pub mod Copying
pub mod History
