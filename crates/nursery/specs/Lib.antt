pub mod Young
pub mod Model
