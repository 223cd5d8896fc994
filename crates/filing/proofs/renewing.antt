pub mod Some
pub mod Stages
pub mod Writing
pub mod LastFile
pub mod Renewed
pub mod Repeats
pub mod Steps
pub mod Loop
