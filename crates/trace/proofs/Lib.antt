-- What a piece leaves.
pub mod Taken
pub mod Portions
