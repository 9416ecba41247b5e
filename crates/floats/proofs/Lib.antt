-- Laws of floats and of their root; Nearest.antt has the theorems.
pub mod Whole
pub mod Grid
pub mod Halfway
pub mod Scaled
pub mod Fields
pub mod Nearest
pub mod Written
pub mod Cases
pub mod Small
pub mod Monotone
pub mod Rounding
pub mod Over
pub mod NanPatterns
pub mod Constants
pub mod Signed
pub mod Differences
