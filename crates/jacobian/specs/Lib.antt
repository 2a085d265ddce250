-- Classes by value: what the calls answer.
pub mod Field
pub mod Checks
pub mod Refusals
pub mod Curves
pub mod Classes
pub mod Checking
pub mod Membership
pub mod Examples
pub mod FurtherExamples
pub mod Answer
pub mod Group
pub mod Valid
pub mod internal
