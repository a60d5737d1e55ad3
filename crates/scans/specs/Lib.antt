-- What a question makes of the record of one slot, in the shape of the code.
pub mod Scans
