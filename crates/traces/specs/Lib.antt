-- What the contracts cite.
pub mod Serves
