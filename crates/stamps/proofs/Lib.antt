-- The class of a stamp: how it is computed, that it is accepted, and that different stamps have different classes.
pub mod Values
pub mod Search
pub mod Points
pub mod Theorems
pub mod Edges
