-- What reading leaves in lent words, and where the private readers stand.
pub mod Reading
