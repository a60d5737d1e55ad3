-- What the proofs share.
pub mod Unique
pub mod Streams
pub mod Lent
pub mod Sofar
