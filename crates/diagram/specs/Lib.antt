-- The definitions of a table, in the order in which they build on one another.
pub mod Format
pub mod Meaning
pub mod Count
pub mod Answer
pub mod Rules
pub mod Ordered
pub mod Reading
