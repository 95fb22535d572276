pub mod SnapNames
pub mod ReadSlots
