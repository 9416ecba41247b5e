-- What the rows of keys are, and that an index of them can be built.
pub mod KeyLaws
pub mod OneRow
pub mod Rows
pub mod Putting
pub mod Second
