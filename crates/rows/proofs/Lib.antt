-- The arithmetic of rows, and what rows stand for.
pub mod Modular
pub mod Expanding
pub mod Standing
pub mod Placing
pub mod Entering
pub mod Filling
pub mod Summing
pub mod Counting
