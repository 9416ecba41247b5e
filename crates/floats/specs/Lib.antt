-- Floats and their square root.
pub mod Floats
pub mod Root
pub mod RootAnswer
pub mod Steps
