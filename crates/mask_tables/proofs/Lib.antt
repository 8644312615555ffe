-- The laws that other crates cite, and the others.
pub mod Loops
mod Put
