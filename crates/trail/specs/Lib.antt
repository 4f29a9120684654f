-- The way down to a rank, kept for the next one.
pub mod Inner
