pub mod GroupLaws
pub mod LayLaws
pub mod WroteLaws
