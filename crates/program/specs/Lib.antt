-- What a run of the program does to what it is lent.
pub mod Running
pub mod Steps
