mod QuotedLaws
mod CutLaws
mod LiteralLaws
mod SpellingLaws
mod PrintedLaws
mod WordLaws
mod LineLaws
mod FittingLaws
mod SpaceLaws
mod PartLaws
pub mod Laws
