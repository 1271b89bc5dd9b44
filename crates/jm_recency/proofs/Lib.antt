pub mod LinkLaws
pub mod Dropped
pub mod Pushed
