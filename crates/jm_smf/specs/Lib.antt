pub mod File
pub mod Cuts
pub mod Reading
pub mod Grammar
pub mod Faults
pub mod Laws
