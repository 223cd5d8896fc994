pub mod Lines
pub mod Twice
pub mod Find
