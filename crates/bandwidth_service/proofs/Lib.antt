-- The steps of the proofs here, and the laws that other crates cite.
pub mod Parts
pub mod Turns
