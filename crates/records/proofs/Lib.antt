pub mod Bytes
pub mod RecordLaws
pub mod RecordTrip
pub mod WordedLaws
