-- Definitions that only private functions' contracts name.
pub mod Next
