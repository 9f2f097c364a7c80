pub mod Members
pub mod Counts
pub mod Once
pub mod Inserted
