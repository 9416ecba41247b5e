-- The nodes that cells name, the welded map over them, and the welding operation. Steps is for internal contracts only.
pub mod Used
pub mod Welding
pub mod Steps
