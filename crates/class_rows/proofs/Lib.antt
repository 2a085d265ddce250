-- Rows of coefficients: lemmas that belong to no one function.
pub mod ReductionRows
pub mod DoubleRows
pub mod ComposeRows
pub mod HalfRows
pub mod OppositeRows
pub mod MoveRows
pub mod Elements
pub mod CheckRows
pub mod Tests
pub mod Answers
pub mod TakingBack
