-- The history register by value, lists of calls on it, and walks back (docs/SPECIFICATION.md, 4 and 11).
pub mod Machine
pub mod Register
pub mod Calls
pub mod Checking
pub mod internal
