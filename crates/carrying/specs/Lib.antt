-- Words that carry their nodes.
pub mod Words
