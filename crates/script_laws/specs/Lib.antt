pub mod Naming
pub mod Words
pub mod Openings
pub mod Refusals
pub mod Execution
pub mod Canonical
pub mod Generated
