-- Rows in the sheet, and the theorems about counting by how many settings are on.
pub mod Weighing
pub mod Theorems
