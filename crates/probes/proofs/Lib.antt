-- The record as the walks take it, stores of a record's words, and that each contract leaves one answer.
pub mod Whole
pub mod Unique
