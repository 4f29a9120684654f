-- Answers in three words.
pub mod Told
