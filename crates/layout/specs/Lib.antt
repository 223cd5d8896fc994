pub mod Part
pub mod Report
pub mod Request
pub mod Correction
pub mod Walk
pub mod Putting
