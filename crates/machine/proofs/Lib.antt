-- The laws of the machine, by subject; the crates above cite them too.
pub mod GoodShape
pub mod Queueing
pub mod Recording
pub mod Copying
pub mod KeptPlaces
pub mod KeptStates
pub mod Known
pub mod Keeping
pub mod Guesstimate
pub mod Unique
