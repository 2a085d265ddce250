-- What the trial of the calls on a register answers.
pub mod Texts
pub mod internal
