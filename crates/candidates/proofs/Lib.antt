-- Laws of the candidates of a model's face.
pub mod Found
pub mod Answers
