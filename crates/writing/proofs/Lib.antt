-- What the proofs share.
pub mod Unique
pub mod Writing
