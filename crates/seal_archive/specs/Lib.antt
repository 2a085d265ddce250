-- What the calls for C on whole archives answer and write.
pub mod Suppress
pub mod internal
