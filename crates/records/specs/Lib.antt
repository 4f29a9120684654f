-- What the functions that check the records know.
pub mod Inner
