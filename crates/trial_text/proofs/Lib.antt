-- Laws of a trial's run, and of the lengths of its texts.
pub mod Lengths
pub mod Runs
pub mod Turns
