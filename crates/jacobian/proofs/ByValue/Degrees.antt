-- The accepted degrees: 5 and 61.
pub use Rattle.binary_field_theory.proofs.Products.{degree_cases as by_degree}
