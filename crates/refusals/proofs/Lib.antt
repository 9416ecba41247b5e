-- Laws of what an operation answers.
pub mod Told
