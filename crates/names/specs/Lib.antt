-- What the functions on lent words tell, beside the rules.
pub mod Lent
