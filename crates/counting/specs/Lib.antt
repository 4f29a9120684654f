-- What is known while the sheet is filled.
pub mod Inner
