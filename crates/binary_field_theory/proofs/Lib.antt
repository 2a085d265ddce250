-- Theorems on elements: polynomials over GF(2) and their remainders, products and powers of elements, the theorems of
-- docs/SPECIFICATION.md, 1, and the laws that a field record needs. Words: how elements are computed in 64-bit words.
pub mod Sums
pub mod Clmul
pub mod Spread
pub mod Remainder
pub mod Products
pub mod Degrees
pub mod Power
pub mod Chain
pub mod Linear
pub mod Frobenius
pub mod Certificate
pub mod Inverses
pub mod Irreducible
pub mod Search
pub mod Quadratic
pub mod TraceBits
pub mod Theorems
pub mod Elements
pub mod Words
