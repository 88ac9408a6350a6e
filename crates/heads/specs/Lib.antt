-- A head as a step of the meaning.
pub mod Steps
