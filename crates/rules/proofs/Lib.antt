pub mod Lawful
pub mod Promises
pub mod Paper
pub mod First
pub mod FirstRun
