mod HalfWords
pub mod Counts
mod AllViews
mod RoundSeats
mod KeptRule
mod SeatViews
mod MadeClaims
mod SeatSteps
mod OwnerSteps
mod LentSeats
