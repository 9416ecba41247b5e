-- The fields of a record, and findings kept.
pub mod Read
pub mod Keeping
