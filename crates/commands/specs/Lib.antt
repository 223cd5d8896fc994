pub mod Arrivals
pub mod Given
pub mod Status
