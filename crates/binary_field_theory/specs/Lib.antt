-- Elements of GF(2^5) and GF(2^61): polynomials over GF(2), their arithmetic, the roots of y² + y = a,
-- and the rules of the two tables.
pub mod Carryless
pub mod Element
pub mod Search
pub mod Quadratic
pub mod Chain
pub mod Spreading
pub mod Multisquaring
