pub mod RootWords
pub mod RootsHeld
