pub mod Showing
pub mod Lines
pub mod Standings
pub mod Starts
pub mod Whys
pub mod Records
