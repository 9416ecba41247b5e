-- Reading back what was written.
pub mod Back
pub mod Keeping
