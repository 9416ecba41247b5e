-- Reading a model file: what its steps need and leave.
pub mod Steps
