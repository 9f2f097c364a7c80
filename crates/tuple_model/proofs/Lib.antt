pub mod Rising
pub mod Ranks
pub mod Subsets
pub mod Picking
pub mod Answers
pub mod Antichains
mod Examples
