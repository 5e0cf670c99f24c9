-- What an operation does to the cells, in the paper's words. Read in this order.
pub mod Running
pub mod Telling
pub mod Replaying
pub mod Walking
pub mod Examples
