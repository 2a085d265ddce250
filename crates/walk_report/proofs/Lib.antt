-- Laws of the report's lines and steps.
pub mod LineParts
pub mod Advances
pub mod LinesLeft
pub mod Loop
