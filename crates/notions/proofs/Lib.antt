pub mod Granted
pub mod OtherIndices
pub mod IndexBits
pub mod InternalCounts
pub mod ItemLists
pub mod Asked
mod Examples
