-- The rules, one file a section: read in this order.
pub mod Limits
pub mod Strings
pub mod Names
pub mod Stamps
pub mod Stored
pub mod Refusals
pub mod Values
pub mod Packed
pub mod Room
pub mod Bundles
pub mod Tables
pub mod Histories
pub mod Traces
pub mod Promises
pub mod OneAnswer
pub mod Examples
