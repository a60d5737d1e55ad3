-- What the private functions do. The public contract cites none of it.
pub mod Buffers
