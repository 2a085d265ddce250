-- Predicates of lists, and walks along them.
pub mod Lists
pub mod Walk
