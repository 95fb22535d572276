pub mod Locations
pub mod Names
pub mod HeaderChange
pub mod Runs
