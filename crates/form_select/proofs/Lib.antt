mod BehindLaws
mod ChosenLaws
mod DatalistLaws
pub mod Laws
pub mod OptionLaws
mod PlaceLaws
mod SettlingLaws
mod StepLaws
mod WalkLaws
