-- What states have in common, in the paper's words. Read in this order.
pub mod Numbers
pub mod Sizes
pub mod Holding
