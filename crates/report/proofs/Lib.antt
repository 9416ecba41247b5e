-- The program's output by the definitions, computed on published cases.
pub mod Cases
pub mod Published
