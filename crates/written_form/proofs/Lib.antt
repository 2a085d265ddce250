-- Laws of a call's response and effect, of bytes as the code pushes them; every call wrote or refused.
pub mod Appending
pub mod Effects
pub mod Bytes
pub mod Given
pub mod Outputs
pub mod Checking
pub mod WroteOrRefused
pub mod Wrote
