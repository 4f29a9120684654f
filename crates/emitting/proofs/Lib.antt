-- The laws of writing a table.
pub mod Emits
pub mod Numbers
