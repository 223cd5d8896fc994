pub mod Beginning
pub mod Readable
