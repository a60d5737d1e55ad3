pub mod Zeros
pub mod Unique
