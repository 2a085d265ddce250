-- Reduced divisor classes on y² + y = f(x), f monic of degree 7 (docs/SPECIFICATION.md, 2).
pub mod Curve
pub mod Mumford
pub mod Composition
pub mod Reduction
pub mod Operations
pub mod Half
pub mod Coefficients
pub mod Group
pub mod Multiples
pub mod Moves
pub mod Carrying
pub mod NonSingular
