-- Definitions for the contracts of private functions; no contract of an open function cites them.
pub mod Bezout
pub mod Check
pub mod Cofactor
