-- What every history of calls keeps: of configurations, one kind of step a file, then of tables. Each file stands above those that cite it.
pub mod Config
pub mod Update
pub mod Fork
pub mod Unite
pub mod Settle
pub mod Join
pub mod Tables
pub mod Good
pub mod Keeps
pub mod Right
pub mod Every
pub mod Calls
