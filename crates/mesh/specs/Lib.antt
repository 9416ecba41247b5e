-- The model, its rings and faces, and what is refused.
pub mod Model
pub mod Rings
pub mod Acceptance
pub mod Lookup
pub mod Steps
pub mod Kinds
pub mod Lent
pub mod Counted
pub mod PhedRest
pub mod CellsRest
