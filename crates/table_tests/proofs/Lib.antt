mod Bare
mod EdenLists
mod BareCells
mod BareSeats
mod Cutting
mod Filled
mod CellSteps
mod Hands
mod Heads
mod Marked
mod OneCell
mod OpenMains
mod Paired
pub mod BegunSeats
pub mod PutSeats
mod Widened
mod WaitingMains
