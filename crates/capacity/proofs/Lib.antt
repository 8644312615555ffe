-- The laws that the proofs cite.
pub mod Checks
pub mod Calls
