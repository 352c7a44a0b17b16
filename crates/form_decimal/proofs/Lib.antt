mod ScalingLemmas
mod SpellingLemmas
mod AlignedLemmas
mod NearestLemmas
mod ChoiceLemmas
mod PrintLemmas
mod MeaningLemmas
mod FoldLemmas
pub mod Laws
