-- Definitions for the contracts of functions that are not open.
pub mod Accepted
