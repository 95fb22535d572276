pub mod Standing
pub mod Limits
pub mod Walks
