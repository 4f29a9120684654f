-- What counting by how many settings are on answers, and that the counts add up.
pub mod Operations
pub mod AddUp
