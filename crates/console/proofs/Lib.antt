-- What holds of operations one after another, and of the files that they hand out.
pub mod Dividing
pub mod EqualFiles
