pub mod Read
pub mod Spelling
pub mod Passing
