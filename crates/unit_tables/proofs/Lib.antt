-- The laws that other crates cite.
pub mod Steps
pub mod Flushing
pub mod Owners
