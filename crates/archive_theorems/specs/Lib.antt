-- The bytes of an archive, the values that have such bytes, readings with shifted offsets, and the checks in order.
pub mod Written
pub mod Places
pub mod Checking
