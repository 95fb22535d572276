mod KeyedLists
mod SamePaths
mod PathLists
pub mod BindingTrees
mod BoundFrom
mod MarkedEntries
mod AlongProtos
