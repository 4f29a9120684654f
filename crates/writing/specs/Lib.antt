-- The table of the setups between two bounds, written.
pub mod Inner
