-- What the rules of one record know.
pub mod Inner
