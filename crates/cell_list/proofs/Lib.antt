pub mod Flags
pub mod Exchanges
pub mod Pushes
pub mod Joins
