-- Definitions that only private functions' contracts name.
pub mod Kept
pub mod RowSteps
