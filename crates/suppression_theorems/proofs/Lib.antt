-- Theorems on the call that suppresses an operation: its checks in order, its edges, what it leaves, and histories
-- without the operation.
pub mod Checking
pub mod Edges
pub mod Suppressed
pub mod Histories
