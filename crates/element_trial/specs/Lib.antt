-- What the trial of the calls on elements answers.
pub mod Texts
pub mod internal
