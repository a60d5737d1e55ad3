-- What a piece comes to in the buffers, and that all pieces together print what the rules say of the whole input.
pub mod Feeds
pub mod Printed
pub mod Unique
