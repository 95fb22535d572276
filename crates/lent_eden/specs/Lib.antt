pub mod Lent
pub mod SeatsBack
pub mod Handed
