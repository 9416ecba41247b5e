-- The model file: records, the file, reading and writing.
pub mod Records
pub mod Letters
pub mod File
pub mod Reading
pub mod Writing
pub mod Held
pub mod Steps
pub mod Parts
