pub mod Recorded
pub mod Flags
pub mod Bits
pub mod Model
