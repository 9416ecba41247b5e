-- What the tables tell of each cell, and of all, is what the definitions of the findings say.
pub mod Parts
pub mod Same
pub mod Numbered
pub mod OneCell
pub mod AllCells
pub mod Candidates
