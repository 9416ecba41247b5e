-- Internal contracts on where a face's ring lies.
pub mod Spans
