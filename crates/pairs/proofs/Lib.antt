-- Laws that belong to no one function.
pub mod Sums
pub mod Again
pub mod Example
