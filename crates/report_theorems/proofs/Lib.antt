-- The report that the loop makes, what its lines say and how they end; the report of a refused archive, and of archives
-- with other pairs; an archive's walk; demand 3 for archives.
pub mod Digits
pub mod Cuts
pub mod Parse
pub mod LineRoom
pub mod ArchiveWalk
pub mod ReportMade
pub mod Opposite
pub mod Decided
pub mod Printed
pub mod Letters
pub mod ReportSays
pub mod Through
pub mod RefusedReport
pub mod Unprinted
pub mod Kept
pub mod Demand3
pub mod Displacement
