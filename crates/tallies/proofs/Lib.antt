pub mod OneByOne
pub mod Cells
mod Examples
