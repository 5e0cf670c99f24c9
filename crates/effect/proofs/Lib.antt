-- The laws of running, by subject; the crates above cite them too.
pub mod Cases
mod Walking
pub mod Outcomes
pub mod Replaying
pub mod Keeping
pub mod Telling
