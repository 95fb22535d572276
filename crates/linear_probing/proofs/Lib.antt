pub mod Rounds
pub mod Places
pub mod Findings
pub mod BackwardShifts
pub mod Searches
pub mod Distances
pub mod Removals
pub mod Turns
