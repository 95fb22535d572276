pub mod Eden
pub mod Sides
pub mod Kept
pub mod Steps
pub mod Copied
pub mod Together
pub mod PutBack
