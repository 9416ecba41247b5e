-- Pairs of words in a slice.
pub mod Pairs
