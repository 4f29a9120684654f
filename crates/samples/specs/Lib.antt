-- The samples that are proved.
pub mod Samples
pub mod Calls
pub mod Lists
pub mod Sheets
pub mod Settings
pub mod EdgeFirst
pub mod Weighing
pub mod Correcting
pub mod Exclusion
pub mod Loose
pub mod EqualFiles
