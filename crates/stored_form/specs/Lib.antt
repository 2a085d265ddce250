-- The stored form: numbers as bytes, the rules of each tag, how fields are read and how they are encoded.
pub mod Number
pub mod Reading
pub mod Head
pub mod Cuts
pub mod Fields
pub mod Elements
pub mod Classes
pub mod Record
pub mod Tags
pub mod Reader
pub mod Pairs
pub mod Passing
