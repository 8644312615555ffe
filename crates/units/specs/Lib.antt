pub mod Owners
pub mod Counts
