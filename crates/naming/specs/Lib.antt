-- What an operation on two tables names.
pub mod Combination
pub mod Inner
