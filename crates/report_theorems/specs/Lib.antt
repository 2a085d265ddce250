-- Archives that keep what a list of calls leaves, and those that differ in their pairs; what the report's lines and
-- letters say; lines with shifted offsets.
pub mod Demand3
pub mod Letters
pub mod Numerals
pub mod Pairs
pub mod Parse
pub mod Printed
pub mod Through
