-- Claims states what is shown of the tables.
pub mod Codes
pub mod Claims
