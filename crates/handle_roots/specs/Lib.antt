pub mod Roots
pub mod RootDecoding
pub mod RootLaws
pub mod Givens
pub mod RootValues
