-- The walk of an archive, and the bytes of its report.
pub mod Walk
pub mod Lines
pub mod Report
pub mod Steps
pub mod Loop
