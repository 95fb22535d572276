pub mod HeapWords
pub mod Places
pub mod Headers
mod FirstCells
pub mod FirstRuns
mod FirstHeaps
mod Changes
mod CycleSteps
mod SeatSteps
mod FreeStores
mod PutLayouts
pub mod AddedPaths
mod RootsPut
mod Opened
mod Starting
mod ClassValues
pub mod JudgedSlots
pub mod TouchedRanges
pub mod SlotCycles
pub mod Recording
pub mod WipedAgain
pub mod FreeCells
pub mod ShownHeld
pub mod PutRanges
pub mod StretchTouches
pub mod StoredRanges
mod KnownSeats
mod BegunCycles
mod DroppedCycles
mod ScannedCycles
mod LentSeats
mod PausedCycles
pub mod ResumedCycles
pub mod SureStores
pub mod SeenWorlds
pub mod StoresOn
pub mod MayPuts
pub mod PutWords
pub mod SlotStores
pub mod MarksOn
pub mod BlackenedOn
pub mod PublishedOn
pub mod LaidOn
pub mod FreedOn
