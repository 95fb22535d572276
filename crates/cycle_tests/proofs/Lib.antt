mod Carried
mod Counts
mod Ready
