-- How many smaller setups an edge permits.
pub mod Inner
