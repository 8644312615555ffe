-- The laws that other crates cite.
pub mod Owners
pub mod Counts
pub mod Occupied
