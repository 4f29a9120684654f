-- A diagram whose nodes stand in any order, numbered height by height.
pub mod Levels
pub mod Inner
pub mod Steps
