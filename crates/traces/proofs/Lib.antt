-- The laws that the functions' proofs cite, and what stands in the buffer behind a run.
pub mod Turns
pub mod Ran
pub mod Unique
