pub mod Changing
pub mod Fitting
pub mod Holding
pub mod Left
pub mod Listing
pub mod OneMore
pub mod Picking
pub mod Weaving
