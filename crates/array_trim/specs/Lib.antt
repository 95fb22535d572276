pub mod TrimSteps
pub mod TrimWords
pub mod Trims
pub mod TrimLaws
