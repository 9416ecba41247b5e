-- Laws of rings put one after the other.
pub mod Putting
