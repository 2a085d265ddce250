-- Rows of numbers and the polynomials that they stand for.
pub mod Elements
pub mod Coefficients
pub mod Length
pub mod Fill
pub mod RowOf
pub mod Constants
pub mod Shift
pub mod Roots
pub mod Sums
pub mod Squares
pub mod Lead
pub mod Monic
pub mod Multiply
pub mod Divide
pub mod Answers
pub mod Horner
