pub mod Steps
pub mod Records
pub mod Worked
pub mod Renewed
