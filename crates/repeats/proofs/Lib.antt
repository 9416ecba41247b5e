-- Laws of marks and of the pairs that they give.
pub mod Walk
pub mod Rounds
pub mod Whole
