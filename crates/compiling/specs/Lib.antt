-- A table made of nodes in a sheet.
pub mod Inner
