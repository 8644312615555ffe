-- The laws that the proofs cite.
pub mod Bits
pub mod Forms
pub mod Marks
pub mod Mweights
pub mod Passes
pub mod Tables
pub mod SumLaws
