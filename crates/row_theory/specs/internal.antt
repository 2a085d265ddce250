-- Definitions for the contracts of private functions on rows; no contract of an open function cites them.
pub mod Bezout
pub mod Compose
pub mod Elements
pub mod Halving
