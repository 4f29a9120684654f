-- A loose table made proper.
pub mod Operations
pub mod Inner
