-- Laws of the area test.
pub mod OneRoot
pub mod Judged
pub mod Refused
