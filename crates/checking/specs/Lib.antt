-- What the operations answer and leave in the sheet.
pub mod Answers
pub mod Operations
pub mod Sheets
pub mod EdgeFirst
pub mod Inner
