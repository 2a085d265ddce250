-- Multiples and repeated halves by bytes: what passes, that each call wrote or refused, and the laws.
pub mod Passing
pub mod WroteOrRefused
pub mod AnyOutput
pub mod ByteMultiples
pub mod HalvingsOfMultiples
