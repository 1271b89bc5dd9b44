pub mod Readers
pub mod Octets
pub mod Delta
pub mod DeltaReading
pub mod DeltaWriting
pub mod Numbers
pub mod Heads
pub mod HeadLaws
