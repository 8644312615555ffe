-- The laws that other crates cite.
pub mod Words
pub mod Bits
pub mod Tables
pub mod Lists
