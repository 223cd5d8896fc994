pub mod Report
pub mod Entry
pub mod comparing
pub mod places
