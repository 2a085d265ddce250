-- Classes by value: lemmas that belong to no one function.
pub mod ByValue
pub mod Representation
pub mod Computing
pub mod Examples
pub mod Calls
pub mod Moves
pub mod Group
pub mod Refusals
pub mod Checking
pub mod Acceptance
pub mod Edges
pub mod Steps
pub mod Valid
