pub mod RowAddresses
mod CopiedCells
pub mod ImagesShow
mod FilledWords
mod BlankedWords
pub mod ImageStores
pub mod ImagesTight
pub mod ImagesFree
pub mod ImagesStuck
pub mod ImagesExact
pub mod Keeping
pub mod MadeRoom
pub mod CollectedAll
pub mod Ungranted
pub mod BesideMaps
pub mod TakenPairs
pub mod ClearedHeap
pub mod SweptObjects
mod MarkedWords
mod MarkedTables
pub mod SweptMarked
pub mod Collected
pub mod CollectedHeaps
mod LiveLists
pub mod FilledHeaps
mod BornFronts
mod KeptPairs
pub mod BornHeaps
pub mod SweptBorn
pub mod LastMarkings
pub mod PromotedHomes
pub mod StartsStay
pub mod RowSteps
