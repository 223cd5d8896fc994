pub mod Reports
pub mod Corrections
