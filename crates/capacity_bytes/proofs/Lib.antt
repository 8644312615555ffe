-- The laws that the proofs cite.
pub mod Lengths
pub mod Calls
pub mod Resets
