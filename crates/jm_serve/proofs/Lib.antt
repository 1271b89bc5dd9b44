pub mod Joins
pub mod Departing
pub mod Making
pub mod Telling
pub mod Retrying
pub mod Hearing
pub mod Taking
