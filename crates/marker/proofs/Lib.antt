pub mod ShadeOne
pub mod ShadeAll
pub mod OneTurn
pub mod Listed
pub mod Looked
pub mod Going
pub mod Offers
