pub mod Blocks
pub mod Codes
pub mod Counting
pub mod Digits
pub mod Doubling
pub mod Keeping
pub mod Making
pub mod Merging
pub mod Placing
pub mod Raising
pub mod Ranking
pub mod Stepping
pub mod Walk
mod Examples
