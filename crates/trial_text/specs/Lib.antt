-- The cases that the trial programs read.
pub mod Cases
pub mod Runs
