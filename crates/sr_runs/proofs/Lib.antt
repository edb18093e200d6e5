pub mod Splits
pub mod StepLemmas
pub mod BlockLemmas
pub mod ExplainLemmas
pub mod MomentLemmas
pub mod PairLemmas
pub mod AskedLemmas
pub mod LineLemmas
mod NamedLemmas
pub mod VersionLemmas
pub mod FreeLemmas
pub mod CoveredLemmas
pub mod ExampleTexts
pub mod ExampleRests
pub mod ExampleClasses
pub mod ExampleRun
pub mod EvictedClasses
pub mod EvictedRun
mod OutcomeLemmas
