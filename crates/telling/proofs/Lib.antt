-- The laws of answers in three words.
pub mod Telling
