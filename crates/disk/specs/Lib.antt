pub mod Sums
pub mod Head
pub mod Books
pub mod Saved
