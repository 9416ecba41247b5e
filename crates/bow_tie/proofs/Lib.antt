-- A law of searches.
pub mod Sought
