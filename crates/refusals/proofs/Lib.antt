-- Laws of the refusals' numbers.
pub mod Numbers
