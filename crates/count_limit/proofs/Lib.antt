-- Counts within the limit and above it, released steps within the count and above it; their refusals are valid, and
-- given under their conditions.
pub mod Limit
pub mod Checking
pub mod Valid
