-- Laws of the two indexes.
pub mod Standing
