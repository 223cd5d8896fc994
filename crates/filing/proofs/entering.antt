pub mod Journals
pub mod Writing
pub mod Joining
pub mod Listing
pub mod Entered
