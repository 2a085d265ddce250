-- Theorems on archives: bytes and values determine each other; an encoded archive is bytes; its length;
-- the header and the pairs at their limits; reading one part of the input at a time; the checks in order.
pub mod Parts
pub mod Shifted
pub mod Tail
pub mod ArchiveRoundTrips
pub mod ArchiveBytes
pub mod FieldPlaces
pub mod ArchiveLength
pub mod Windows
pub mod HeaderEdges
pub mod DrawingEdges
pub mod PairEdges
pub mod Checking
