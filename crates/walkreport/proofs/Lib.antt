-- The lines written by the loop.
pub mod Written
