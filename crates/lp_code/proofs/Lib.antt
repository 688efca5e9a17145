mod Growing
mod Adding
pub mod Recording
mod WorkedRows
