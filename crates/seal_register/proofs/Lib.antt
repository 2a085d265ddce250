-- Calls on a lent register and lists of them; the walk over a lent row, its steps and demand 3 of it; what both answer.
pub mod Answer
pub mod InPlace
pub mod RowSteps
pub mod Promises
pub mod RowWalk
pub mod Displacement
pub mod Checking
pub mod Edges
pub mod Valid
