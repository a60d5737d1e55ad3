-- The laws that the functions' proofs cite, and those that tie answers to the rules.
pub mod Stores
pub mod Digits
pub mod Texts
pub mod Runs
pub mod Fits
pub mod Turns
pub mod Unique
