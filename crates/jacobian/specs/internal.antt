-- What the private functions promise.
pub mod ClassRows
pub mod Refusals
