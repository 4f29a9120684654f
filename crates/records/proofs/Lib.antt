-- The laws of the records and of their names, in the terms of the code.
pub mod Levels
pub mod Turns
pub mod Marks
