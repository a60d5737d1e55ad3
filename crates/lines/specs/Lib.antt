-- What the contracts cite: lines as commands, and commands at a table. Inner is for private functions only.
pub mod Commands
pub mod Runs
pub mod Inner
