mod Parts
mod RowLimits
pub mod RowWalks
pub mod SlotEnds
pub mod SlotTargets
mod Steps
