-- What the contract cites: answers as text. Inner is for private functions only.
pub mod Answers
pub mod Inner
