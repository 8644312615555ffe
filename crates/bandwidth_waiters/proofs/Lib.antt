-- The steps of the proofs here, and the laws that other crates cite.
pub mod Forms
pub mod Steps
pub mod Turns
pub mod Weights
pub mod Windows
