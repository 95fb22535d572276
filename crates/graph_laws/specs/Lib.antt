pub mod Laws
pub mod ReachLaws
pub mod ReachAfter
pub mod GraphLaws
pub mod ProtoLaws
