-- Laws of the check.
pub mod Answers
pub mod Ways
pub mod Demands
