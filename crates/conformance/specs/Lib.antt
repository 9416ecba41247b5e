-- The check by either way.
pub mod Ways
