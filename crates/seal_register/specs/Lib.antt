-- The register changed in place, lists of calls on it, and the walk over a lent row (docs/SPECIFICATION.md, 8 and 11).
pub mod InPlace
pub mod RowWalk
pub mod Checking
pub mod internal
