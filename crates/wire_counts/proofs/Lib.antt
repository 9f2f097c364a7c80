pub mod Convolutions
pub mod Sums
pub mod Sets
pub mod ByTuples
pub mod Agreeing
pub mod Sublists
pub mod WireSets
pub mod Deciding
pub mod Bounds
pub mod Choosing
pub mod Walks
pub mod Passes
pub mod Blocks
mod Examples
