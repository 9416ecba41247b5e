-- Laws of filling ring lists.
pub mod Lists
pub mod Answers
