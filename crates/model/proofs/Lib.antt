pub mod Files
pub mod Stores
pub mod Counts
pub mod Keys
pub mod Example
