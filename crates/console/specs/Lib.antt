-- What C is promised, where an equation with a definition does not say it.
pub mod Combines
pub mod Files
