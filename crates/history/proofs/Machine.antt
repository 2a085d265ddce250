-- Lists of calls on any machine.
pub mod Run
pub mod TakingBack
pub mod Carried
pub mod Accepted
