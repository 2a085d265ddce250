-- The class of a stamp.
pub mod Stamps
