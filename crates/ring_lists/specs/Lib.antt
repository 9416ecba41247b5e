-- The operation that fills ring lists.
pub mod Filling
pub mod Steps
