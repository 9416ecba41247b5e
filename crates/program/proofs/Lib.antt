-- The text of what the check answers, what a short file decodes to, and a whole run.
pub mod Answers
pub mod Sizes
pub mod Runs
