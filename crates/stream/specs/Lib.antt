pub mod Output
pub mod Stream
pub mod Claim
