pub mod Pushes
pub mod Lines
mod Examples
