pub mod Stages
pub mod Kept
pub mod CallLaws
pub mod RunLaws
pub mod SomeRun
