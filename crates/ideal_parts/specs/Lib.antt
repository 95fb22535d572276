pub mod Lookups
pub mod Keyings
