-- The polynomial with given coefficients.
pub mod OfList
