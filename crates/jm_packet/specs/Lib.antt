pub mod Header
pub mod Reading
pub mod Says
pub mod Laws
