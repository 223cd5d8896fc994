pub mod Files
pub mod Records
pub mod Twice
pub mod Reads
