-- Rows of coefficients, as they are computed: loops over them, division, Euclid's rule, the halving rule and the way to
-- the plain curve.
pub mod Rows
pub mod Bezout
pub mod ReductionSteps
pub mod QuotientRows
pub mod HalfRows
pub mod PlainRows
