-- Polynomials over a field of characteristic 2.
pub mod Polynomials
pub mod Divides
pub mod Lead
pub mod Euclid
pub mod Square
pub mod Shift
pub mod Polynomial
