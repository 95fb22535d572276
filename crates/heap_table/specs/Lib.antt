pub mod Phases
pub mod Seats
pub mod Overviews
pub mod Seated
pub mod Sharing
pub mod Staying
