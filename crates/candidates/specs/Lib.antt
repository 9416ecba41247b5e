-- The candidates of a face of a model.
pub mod Seeking
