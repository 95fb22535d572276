pub mod PageCells
pub mod GoingOn
pub mod Claimed
