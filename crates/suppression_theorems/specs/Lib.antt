-- What the checks of the call that suppresses an operation require, that it wrote or refused, and what it wrote.
pub mod Checking
pub mod Suppressed
