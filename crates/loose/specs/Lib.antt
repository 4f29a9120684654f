-- Loose tables.
pub mod Rules
pub mod Inner
