pub mod Standing
pub mod LineChecks
pub mod Books
pub mod Journals
