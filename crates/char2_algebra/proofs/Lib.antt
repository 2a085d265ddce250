-- Algebra in characteristic 2. Rings, and polynomials as a record of operations and laws:
pub mod Ring
pub mod Degree
pub mod Product
pub mod Divides
pub mod Division
pub mod Lead
pub mod Euclid
pub mod Square
pub mod Shift
-- trimmed lists of coefficients are such polynomials (polynomial_lists, specs/Polynomials.antt):
pub mod Convolution
pub mod ListCoefficients
pub mod PolynomialRing
pub mod ListDivision
