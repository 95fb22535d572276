pub mod HeapWords
pub mod SharedWords
pub mod Agreeing
mod PutSeats
mod OwnedSteps
mod SharedStretches
mod ChangedStretches
pub mod SeatSteps
