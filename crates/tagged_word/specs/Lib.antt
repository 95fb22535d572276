pub mod Words
pub mod Headers
pub mod Odds
pub mod Layouts
pub mod Shapes
pub mod Cells
pub mod Readings
