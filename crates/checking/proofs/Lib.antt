-- The laws that the operations' proofs use.
pub mod Compose
pub mod Accepting
pub mod Lending
pub mod Answering
pub mod Bounds
pub mod Blank
pub mod EdgeFirst
