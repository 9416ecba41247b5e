-- Laws of the model, its rings and what is refused.
pub mod Runs
pub mod Ends
pub mod RunTallies
pub mod CellKinds
pub mod CellTallies
pub mod ModelTable
pub mod Accepts
pub mod ByKind
pub mod NodeNumbers
pub mod CellWords
pub mod WellCells
pub mod KindNumbers
pub mod Counts
