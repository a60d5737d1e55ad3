-- What the contracts cite: one walk over the words of names.
pub mod Walks
