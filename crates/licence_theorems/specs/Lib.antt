-- Records rebuilt from what calls wrote, and the checks of the calls.
pub mod Rebuilt
pub mod Checking
