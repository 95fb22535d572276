pub mod Lists
pub mod Boards
pub mod Stops
