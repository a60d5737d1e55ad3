-- The laws that the functions' proofs cite, and those that tie lines to the rules.
pub mod Splits
pub mod Slots
pub mod Reading
pub mod Pieces
pub mod Turns
pub mod Runs
pub mod Unique
