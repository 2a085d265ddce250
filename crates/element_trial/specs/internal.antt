-- What the trial's law cites.
pub mod Lengths
