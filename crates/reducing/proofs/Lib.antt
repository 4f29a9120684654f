-- The laws of numbering height by height.
pub mod Lists
pub mod Renewing
pub mod Collecting
pub mod Giving
pub mod Raising
pub mod Searching
pub mod Passing
pub mod Stages
pub mod Heights
pub mod Records
pub mod Meaning
pub mod Proper
pub mod TooMany
