mod Advancing
mod Begun
mod Cut
mod Depths
mod Digits
mod Ending
pub mod Fits
mod Holding
pub mod Keywords
pub mod Left
mod Lining
mod Matched
mod Nested
pub mod Numbers
pub mod Openings
mod Operands
mod Phrasing
pub mod Placed
mod Positions
mod Pushing
mod ShortNames
pub mod Reading
mod Refusing
pub mod Scanning
pub mod Speaking
mod Skipping
mod Staying
mod Turning
pub mod Unrolling
pub mod Within
