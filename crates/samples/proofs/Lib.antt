-- The samples, those of lists, of sheets, of the way down, of the order of the rules, of setups ruled out, of a loose table, of pairs of tables that permit the same, and that demand 3 is not empty.
pub mod PartSamples
pub mod PartsOfA
pub mod Samples
pub mod Calls
pub mod Lists
pub mod Sheets
pub mod Settings
pub mod EdgeFirst
pub mod Weighing
pub mod Correcting
pub mod Exclusion
pub mod Loose
pub mod EqualFiles
