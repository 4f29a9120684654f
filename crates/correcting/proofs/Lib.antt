-- The closest permitted setup: what the search comes to, and the theorems.
pub mod Searching
pub mod Correcting
pub mod Theorems
