-- Which way candidates are sought, and a slice with its index.
pub mod Tables
pub mod Work
