pub mod Combinations
pub mod Reduction
pub mod Eliminated
pub mod Newest
pub mod Stacked
pub mod Bases
