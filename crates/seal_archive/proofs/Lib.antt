-- What accepted bytes say, whether an operation is held, and the bytes with an operation suppressed.
pub mod Accepted
pub mod Held
pub mod Replaced
pub mod Answers
