-- What a call on byte areas answers, what it leaves in the lent output, and ranges of bytes that are appended.
pub mod Effect
pub mod Wrote
pub mod Ranges
