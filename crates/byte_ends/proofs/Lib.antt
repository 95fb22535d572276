pub mod Consuming
pub mod Appending
pub mod Taken
