-- The packed form is one to one, one file a part of the layout, each above those that cite it.
pub mod Bytes
pub mod Fields
pub mod Names
pub mod Sizes
pub mod Values
pub mod RoundTrip
