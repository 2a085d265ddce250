-- Commutative rings and fields of characteristic 2 as records, and division in such a field.
pub mod Ring
pub mod Field
pub mod Division
