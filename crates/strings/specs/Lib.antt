-- What the contracts cite beside the rules: the words that begin with a string.
pub mod Words
