pub mod FilledKeys
pub mod Takings
pub mod TakenOnce
pub mod TakenTwice
pub mod Passes
pub mod MapCounts
pub mod MapsPassed
