pub mod Step
pub mod Sound
pub mod correction_rules
pub mod effects
pub mod report_rules
pub mod report_tests
pub mod verdicts
