-- An archive read by steps has the refusal of the archive read as a whole, which is 0 or a listed number;
-- fields that are passed over.
pub mod Tail
pub mod ReaderSteps
pub mod Valid
pub mod Skipped
