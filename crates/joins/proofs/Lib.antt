-- Laws that several proofs cite.
pub mod Joining
pub mod Unique
