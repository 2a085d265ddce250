-- Demand 3 for lists of byte calls with the walks of lent rows and of archives.
pub mod Demand3
