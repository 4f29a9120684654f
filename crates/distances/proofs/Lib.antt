-- The laws of distances, and of the nearest setup.
pub mod Settings
pub mod Distances
pub mod Near
pub mod Looking
