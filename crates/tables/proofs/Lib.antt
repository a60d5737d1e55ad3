pub mod Tied
pub mod Asks
pub mod Unique
