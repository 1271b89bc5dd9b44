pub mod Running
pub mod Section
pub mod Pieces
pub mod Grammar
pub mod Reading
pub mod Faults
pub mod Laws
