-- The laws of trials, by subject.
pub mod Splitting
