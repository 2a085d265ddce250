-- Which field leads from a record to the next, the law of a tag, records as such fields in order, their checks,
-- and which numbers an answer can be.
pub mod Fields
pub mod Records
pub mod Checking
pub mod Pairs
pub mod Numbers
