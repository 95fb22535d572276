pub mod Halves
pub mod Claimed
pub mod Sides
pub mod Changes
pub mod Keeping
pub mod Told
pub mod Seated
