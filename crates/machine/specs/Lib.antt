-- The selling machine, in the paper's words. Read in this order.
pub mod Numbers
pub mod Shape
pub mod Telling
pub mod Starting
pub mod Queueing
pub mod Issuing
pub mod Noting
pub mod Asking
pub mod Recording
pub mod Copying
pub mod Guesstimate
pub mod Viewing
