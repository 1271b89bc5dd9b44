pub mod Caller
pub mod Machine
pub mod Calls
pub mod World
pub mod Laws
