-- The field of elements, and what the calls on elements check and answer.
pub mod Field
pub mod Checks
pub mod Answer
pub mod Checking
pub mod Degree
