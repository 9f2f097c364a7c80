pub mod Numbers
pub mod HeaderLines
pub mod Limits
pub mod Offences
pub mod Parts
pub mod Pieces
