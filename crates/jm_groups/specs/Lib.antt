pub mod Lending
pub mod Opening
pub mod Routes
pub mod Sharing
pub mod SharingLaws
