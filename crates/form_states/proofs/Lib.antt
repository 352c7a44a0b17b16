mod StepLemmas
mod LimitsLaws
mod RangeExactness
mod Exactness
pub mod Laws
