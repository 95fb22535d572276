pub mod KnownCells
mod Tiles
mod FewWords
mod Growing
mod Stepping
mod ScannedSlots
mod CopySteps
mod DealtSlots
pub mod AllTogether
pub mod PutTogether
