-- The refusals and their numbers.
pub mod Refusals
