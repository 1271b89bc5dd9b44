pub mod Links
pub mod Recency
pub mod RecencyLaws
