-- Counts and sums.
pub mod Counts
