-- Laws that belong to no one function.
pub mod CountLaws
pub mod Tallying
