pub mod Pairs
pub mod Tables
pub mod Probes
pub mod Removals
pub mod Rehashing
pub mod Entries
