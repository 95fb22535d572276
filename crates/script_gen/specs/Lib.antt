pub mod Draws
pub mod Lines
pub mod Forms
pub mod Generated
