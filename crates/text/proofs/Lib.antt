-- Laws of appending to a line, texts that depend on a test, a buffer that reads fill, and the largest length of a text.
pub mod Appending
pub mod Digits
pub mod Filling
pub mod Lengths
