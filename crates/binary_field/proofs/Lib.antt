-- The numbers of the field's operations, laws of checks, and what the calls answer.
pub mod Field
pub mod Checks
pub mod RefusalOf
pub mod Degrees
pub mod Replies
pub mod Valid
pub mod Checking
pub mod Refusing
pub mod Masks
