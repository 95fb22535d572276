pub mod PageEnds
mod MarksStart
mod OwnKeeps
mod Joined
mod SpotWords
mod KeptRule
mod OtherViews
mod EventSteps
mod StoreSteps
mod ColourSteps
mod PutSteps
mod Loads
mod Beginnings
mod LentSeats
mod Whitened
mod HelperViews
mod HelperEvents
mod HelperSpots
mod HelperSteps
mod Helping
pub mod ColourNumbers
