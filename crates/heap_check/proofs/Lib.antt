pub mod UsedRows
pub mod CountedRows
pub mod RootReadings
pub mod ElementSlots
pub mod FieldSlots
pub mod ProbedPairs
pub mod WeakEntries
pub mod CellByCell
mod CountedCells
mod OwnedTargets
mod NamedSlots
mod SetFlags
mod BesideFlags
mod ClearedFlags
pub mod FirstBreaches
pub mod SizeFlaws
pub mod StartFlags
pub mod WordsRead
pub mod RootFlaws
pub mod MarkedCells
pub mod BrokenWalks
pub mod RowFlaws
mod MarkedStarts
pub mod WholeFlaws
pub mod RegionFlaws
pub mod MarkedRows
pub mod JoinedFinds
pub mod NumberFlaws
pub mod BesideSpans
pub mod ElementFlaws
pub mod ProtoFlaws
pub mod PlainFlaws
pub mod PairFlaws
pub mod WeakFlaws
pub mod NextPowers
pub mod CellLaws
pub mod CellFlaws
