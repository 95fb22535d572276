pub mod Tables
pub mod TableLaws
pub mod BackwardShift
pub mod ShiftLaws
pub mod Outcomes
