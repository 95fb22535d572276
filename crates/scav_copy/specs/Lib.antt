pub mod Places
pub mod Renamings
pub mod Copies
pub mod CopyLaws
pub mod Going
pub mod Worked
