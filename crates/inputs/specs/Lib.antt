-- What the contracts cite.
pub mod Pieces
