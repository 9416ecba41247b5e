-- Laws of writing a model file.
pub mod Putting
pub mod Passes
pub mod Answering
