pub mod Reading
pub mod Spreading
