pub mod Packets
pub mod Premises
pub mod InStep
pub mod Honest
pub mod Sending
pub mod SomeSession
pub mod LongHeard
pub mod SomeLongSession
