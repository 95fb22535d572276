pub mod HeldValues
pub mod StillShown
pub mod CellKinds
pub mod ObjectsAt
mod ChangedWords
mod StandingCells
pub mod Rebinding
pub mod Unbinding
pub mod IntegerSums
mod SmallSums
mod SmallWords
mod SumsHeld
pub mod ValueTexts
pub mod Writings
pub mod SameHeld
pub mod PutWords
pub mod NewCells
pub mod EmptyCells
pub mod EmptyCounted
pub mod PutCells
mod PutRows
mod MadeRecords
pub mod MadeHeaps
pub mod CalmHeaps
mod Makings
mod MadeObjects
pub mod MadeCells
pub mod FieldMeanings
pub mod FieldsSet
pub mod StoppedBy
pub mod GivenValues
pub mod FieldsTaken
pub mod ProtosSet
pub mod GivenProtos
pub mod SameShapes
pub mod ShapeTexts
pub mod FoundKinds
pub mod ListMeanings
pub mod IndexedLists
pub mod ElementsSet
pub mod WeakMeanings
pub mod EntriesSet
mod KeptStores
mod KnownObjects
mod MadeRooms
mod CommandRooms
mod EntryRooms
pub mod MapsNotFull
mod BoundFirst
