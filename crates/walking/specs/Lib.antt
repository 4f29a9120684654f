-- What is known of an edge in a reduced diagram.
pub mod Inner
