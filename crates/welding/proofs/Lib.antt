-- Laws of welding among the nodes that cells name.
pub mod Used
pub mod Loose
pub mod Through
pub mod Naming
pub mod Answers
