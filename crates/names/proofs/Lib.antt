-- What the proofs share.
pub mod Laws
pub mod Shape
pub mod Grown
pub mod Unique
