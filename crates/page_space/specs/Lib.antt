pub mod Sizes
pub mod Extents
pub mod Regions
pub mod RegionLaws
