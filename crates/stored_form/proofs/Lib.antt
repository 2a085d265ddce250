-- Laws of numbers as bytes, of the lengths that tags allow, of readings, and of rows of bytes as the code fills them.
pub mod Digits
pub mod Lengths
pub mod Readings
pub mod Heads
pub mod Parts
pub mod DrawingBytes
pub mod Readers
pub mod Passing
pub mod NumberLists
pub mod Items
pub mod PairBytes
pub mod ClassBytes
pub mod Valid
