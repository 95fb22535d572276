mod SameTransitions
pub mod ShapePaths
pub mod MissingPaths
pub mod GrownPaths
pub mod GrownLists
pub mod ChangedPaths
pub mod LedPaths
pub mod PathLayouts
mod FoundSteps
mod SoughtSteps
mod CopiedSteps
mod HeldNodes
mod CachedSteps
mod KeptAlterations
mod LookedUpFields
mod GrownNodes
mod GrownTrees
mod FirstTrees
