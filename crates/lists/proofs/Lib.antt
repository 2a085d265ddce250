-- Theorems on predicates of lists, and on walks by a rule and back.
pub mod Lists
pub mod Walk
