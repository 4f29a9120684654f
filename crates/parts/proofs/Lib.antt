-- The laws of written parts.
pub mod Promised
pub mod Dividing
pub mod Extents
pub mod Ends
pub mod Lending
pub mod Bounds
pub mod SmallerSheet
