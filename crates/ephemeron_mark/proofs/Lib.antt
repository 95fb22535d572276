pub mod LiveStands
pub mod LiveAgain
mod GrownLists
pub mod CellSlots
mod SlotEnds
mod LastPairs
mod AddedPairs
mod AddedWaits
mod KindTests
mod PairSlots
mod WaitingKeys
mod ReadPairs
mod VisitedCells
mod NotedMaps
mod SeenCells
mod SeenKinds
mod Brought
mod EndMarks
