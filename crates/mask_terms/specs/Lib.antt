pub mod Tasks
pub mod Options
pub mod Wires
