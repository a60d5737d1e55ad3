-- What the rules on records answer, in the shape of the code.
pub mod Rules
