-- Curves and classes by value.
pub mod Threes
pub mod Equality
pub mod Degrees
pub mod Checks
pub mod Below
pub mod Filled
pub mod Pairs
pub mod Passing
pub mod Answers
pub mod Refusals
