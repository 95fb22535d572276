pub mod Listing
pub mod Model
