pub mod OneCell
pub mod Rows
pub mod NextSlots
mod PlainSlots
pub mod CellsThere
pub mod Puts
