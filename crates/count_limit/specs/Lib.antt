-- The limit of operations, and what the checks of a count and of a released step require.
pub mod Limit
pub mod Checking
