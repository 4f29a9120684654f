-- What is known of the distances in the sheet.
pub mod Inner
