-- Elements in words of 64 bits, on plain numbers: carry-less products by integer products, from base-16 digits up to
-- two words and their remainder; squares and repeated squares by tables; roots, inverses and half-traces.
pub mod Sixteens
pub mod Parts
pub mod Columns
pub mod Sizes
pub mod Karatsuba
pub mod Multiples
pub mod Folding
pub mod Table
pub mod Halves
pub mod Multisquares
pub mod ChainSteps
pub mod HalfTraces
pub mod Evens
pub mod RunOfPowers
pub mod Roots
