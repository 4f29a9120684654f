-- The laws of loose tables.
pub mod Records
pub mod Loosely
