-- The records that the byte calls read, what each call answers and leaves in the lent output, its checks,
-- and lists of calls.
pub mod Records
pub mod Calls
pub mod Checking
pub mod Rebuilt
pub mod Group
pub mod Steps
