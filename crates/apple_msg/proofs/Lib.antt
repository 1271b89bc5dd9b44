pub mod Fields
pub mod Messages
pub mod Fixed
pub mod Whole
