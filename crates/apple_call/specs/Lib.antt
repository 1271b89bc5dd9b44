pub mod Exchange
pub mod Turns
pub mod Hears
pub mod Whole
