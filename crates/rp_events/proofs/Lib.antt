pub mod Binomials
pub mod Counts
pub mod Combinations
pub mod LongerSelections
pub mod ShareSums
pub mod ListSteps
pub mod GivenWords
pub mod SelectedEvents
pub mod MeantSets
pub mod OutputBits
pub mod ListedEvents
pub mod Exceeding
pub mod OutputShares
pub mod Inherited
pub mod Judged
pub mod GadgetEvents
mod Examples
mod ExamplesFailing
