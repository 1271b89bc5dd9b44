pub mod Lists
pub mod Lines
pub mod Rosters
pub mod Steps
pub mod Parts
pub mod Closings
pub mod Passes
