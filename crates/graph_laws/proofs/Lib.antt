mod RunLaws
mod NextLines
mod RunBytes
mod RunsEnd
mod RunsEndOnce
pub mod FoundObjects
pub mod FoundProtos
mod Changes
mod Stays
mod ReachedLinks
pub mod Reaches
pub mod Pigeons
pub mod ProtoChains
pub mod ReachedProtos
pub mod FieldLimits
mod DistinctKeys
mod Held
mod KeptProtos
pub mod HeldParts
mod HeldElements
pub mod ShortPaths
pub mod MadeGraphs
pub mod NewProtos
pub mod GraphsStay
pub mod RunGraphs
pub mod Inside
pub mod FieldsAlong
pub mod NearestFields
mod ProtoSteps
pub mod InsideChanges
pub mod NothingNew
pub mod MadeObjects
pub mod LostObjects
