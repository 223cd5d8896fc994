pub mod DateLaws
pub mod Dating
pub mod Counted
pub mod HolidayLaws
pub mod WorkingLaws
pub mod Paper
