-- A line of text and what is appended to it: numbers, classes and refusals.
pub mod Line
pub mod Text
pub mod Failures
