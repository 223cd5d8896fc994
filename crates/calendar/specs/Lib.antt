pub mod Dates
pub mod Holidays
pub mod Former
pub mod WorkingDays
pub mod Answers
pub mod Counted
pub mod Meaning
pub mod Paper
