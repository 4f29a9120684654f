-- Words moved about, words in order, and their places.
pub mod Moves
pub mod Order
pub mod Inserts
pub mod Places
pub mod Picks
