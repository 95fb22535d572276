pub mod ListChanges
pub mod Pushes
