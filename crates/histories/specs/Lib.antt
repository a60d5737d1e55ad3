-- The definitions that the theorem on every history goes by, beside those of the rules.
pub mod Configurations
pub mod Lines
