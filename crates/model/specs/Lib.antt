pub mod Rules
pub mod Model
