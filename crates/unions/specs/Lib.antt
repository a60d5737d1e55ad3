-- What union and reduction leave, on words.
pub mod Unions
