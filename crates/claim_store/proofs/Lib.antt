pub mod Rows
pub mod Ranges
pub mod Moves
pub mod Closing
