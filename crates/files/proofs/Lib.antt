pub mod JudgeLaws
pub mod AsBefore
pub mod ReadLaws
pub mod LineTrip
pub mod FileTrip
pub mod Cursor
pub mod ValueTrip
pub mod ValueFits
