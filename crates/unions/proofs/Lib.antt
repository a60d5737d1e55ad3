-- The laws: the merge is the union (Merging), the stack is reduction of the id (Reducing), the walk is reduction of the update (Becoming, Lifting),
-- and together they are the join (Joining). The others serve the code's proofs.
pub mod Words
pub mod Merging
pub mod Reducing
pub mod Becoming
pub mod Lifting
pub mod Counts
pub mod Buffers
pub mod Joining
pub mod Stores
pub mod Turns
pub mod Stacks
pub mod Seeks
pub mod Unique
