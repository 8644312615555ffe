-- The laws that other crates cite.
pub mod Rows
pub mod Tables
