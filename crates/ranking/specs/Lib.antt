-- What ranking and unranking answer.
pub mod Answers
pub mod Operations
