-- What the functions on rows of numbers require and promise.
pub mod Pair
pub mod Core
pub mod Operations
pub mod Checked
pub mod Answer
pub mod internal
