mod Putting
pub mod TakenIn
