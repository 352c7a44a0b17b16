mod DigitLemmas
mod ReadingLemmas
pub mod PrintLemmas
mod StringLaws
mod MonthLemmas
mod DateLemmas
mod DateTexts
mod WeekLemmas
mod WeekTexts
mod TimeLemmas
mod TimeTexts
mod LocalLemmas
mod LocalTexts
pub mod Laws
