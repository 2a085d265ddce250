-- Theorems on the stored form. Bytes and values determine each other: for numbers, elements and classes;
pub mod Numbers
pub mod Places
pub mod Cuts
pub mod Elements
pub mod Bodies
pub mod ClassRoundTrips
-- for a field and a record, with every list of tags;
pub mod FieldRoundTrips
pub mod RecordRoundTrips
-- tag by tag, for a field and its value;
pub mod FieldLaws
pub mod FieldValues
pub mod FieldsInNumbers
pub mod Written
-- what is read passes its checks;
pub mod Passing
-- and for operations in order.
pub mod Operations
-- The checks of a record, each under its condition; which numbers they refuse with; the lengths that are written.
pub mod CheckedReadings
pub mod Checking
pub mod Pairs
pub mod ClassLengths
pub mod FieldEdges
