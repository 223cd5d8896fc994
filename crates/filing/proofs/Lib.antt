pub mod Accepting
pub mod Promises
