pub mod FreeRuns
pub mod Standing
pub mod Model
pub mod Laws
