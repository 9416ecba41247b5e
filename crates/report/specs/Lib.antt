-- The text of a report, and the program.
pub mod Text
pub mod Program
