-- The halving rule, as it is computed.
pub mod Rows
pub mod Squares
pub mod Degrees12
pub mod Degree3
pub mod Computed1
pub mod Computed2
pub mod Parts3
pub mod Computed3
pub mod Lifted3
