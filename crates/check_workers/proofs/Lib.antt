pub mod Steps
pub mod Counting
pub mod Rounds
pub mod Prefixes
pub mod Joining
