-- n times a class and a class halved k times, by value and by bytes.
pub mod Multiples
pub mod Checking
pub mod Valid
pub mod Calls
