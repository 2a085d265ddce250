-- The half of a class by rows.
pub mod Class
