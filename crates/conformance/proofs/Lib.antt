-- What a call byte other than 1 to 15 answers.
pub mod Calls
