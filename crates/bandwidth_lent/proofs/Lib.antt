-- The laws that the proofs cite.
pub mod Lengths
pub mod Parts
pub mod Steps
pub mod Checks
pub mod Resets
