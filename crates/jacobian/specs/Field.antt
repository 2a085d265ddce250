-- Polynomials over the field of a degree, for the crates above.
pub use Rattle.row_theory.specs.Field.{Poly}
