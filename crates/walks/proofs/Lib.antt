-- What the proofs share, and the laws of the walks.
pub mod Steps
pub mod Tells
pub mod Meets
pub mod Unique
