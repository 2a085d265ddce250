-- The archive that is made of the fields that byte calls were given and wrote.
pub mod Demand3
