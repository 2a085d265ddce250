-- Suppressing one operation: of a list of operations, and of an archive.
pub mod Suppression
pub mod Archives
