-- What the trial of the calls on classes answers.
pub mod Texts
pub mod internal
