pub mod Shapes
pub mod ShapeLayouts
pub mod Growth
pub mod Nodes
pub mod Trees
pub mod CachedSlots
pub mod Walks
pub mod Laws
