-- The laws that the proofs of the code cite, and the claim.
pub mod Cut
pub mod Whole
pub mod Laws
