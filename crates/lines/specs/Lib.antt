-- Texts of lines, whatever they hold. Read in this order.
pub mod Decimals
pub mod Hex
pub mod Fields
pub mod Same
pub mod Texts
pub mod Steps
pub mod Placing
pub mod Pens
