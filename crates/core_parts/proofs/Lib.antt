pub mod Joining
pub mod Leaving
pub mod Handing
pub mod Tested
