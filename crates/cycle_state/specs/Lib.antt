pub mod Cycles
pub mod Keeping
pub mod Resting
pub mod Claims
pub mod ClaimLaws
pub mod Laws
