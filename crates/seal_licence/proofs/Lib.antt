-- Multiples and repeated halves of a class: the classes, the answers and the theorems on them;
pub mod Values
pub mod Answers
pub mod Theorems
-- what byte calls write, refusals in their order, and the limits in numbers.
pub mod Written
pub mod Checking
pub mod Edges
