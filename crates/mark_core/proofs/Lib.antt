pub mod FreeStarts
pub mod JoinedLists
pub mod SlotWalks
pub mod Passing
