pub mod Least
pub mod InPlace
pub mod Coded
pub mod Lookup
pub mod Marking
pub mod Adding
pub mod Staying
pub mod Joining
