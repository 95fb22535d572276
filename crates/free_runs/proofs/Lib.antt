pub mod Bounds
pub mod Ascents
pub mod Cuts
pub mod Pages
pub mod Takes
pub mod TakenWords
pub mod PageRows
