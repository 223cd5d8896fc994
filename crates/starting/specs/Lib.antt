pub mod Start
pub mod tables
