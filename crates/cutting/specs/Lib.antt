-- A diagram cut at a bound.
pub mod Cut
pub mod Behind
