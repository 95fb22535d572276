pub mod Cells
pub mod Slots
pub mod CellLaws
pub mod RowLaws
