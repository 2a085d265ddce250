-- Lists of coefficients as polynomials.
pub mod Polynomials
