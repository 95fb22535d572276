pub mod Model
pub mod Waiting
pub mod CycleSteps
pub mod Paid
pub mod Owing
