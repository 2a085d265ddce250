-- The polynomials that rows of numbers stand for.
pub mod Field
pub mod Row
pub mod internal
