-- What follows from the tables' standing, and a slice split in two.
pub mod Reading
pub mod Ringing
pub mod Again
pub mod Owning
pub mod Split
