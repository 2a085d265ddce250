-- How an archive is read: as a whole, and by a reader with one step for each field; fields that are passed over.
pub mod Archive
pub mod Reader
pub mod Skipping
