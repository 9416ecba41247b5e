-- Text stored into a slice, and the records kept.
pub mod Stored
pub mod Wrote
