pub mod Additions
pub mod FailLines
mod Examples
