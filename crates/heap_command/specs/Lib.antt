pub mod Commands
pub mod Executed
