pub mod Limits
pub mod Channel
pub mod System
pub mod Journal
pub mod Lens
pub mod LimitLaws
pub mod Laws
