-- Walks over a lent run of plain values: what they share, each above those that cite it.
pub mod Frame
pub mod Rows
pub mod Elems
pub mod Lent
pub mod Claims
pub mod Turns
pub mod Hands
pub mod Arrays
pub mod Values
pub mod Walk
