mod BodyLaws
mod BytesLaws
mod EntryLaws
mod FileLaws
mod GatherLaws
mod InvalidLaws
mod LinesLaws
mod OutcomeLaws
mod PartsLaws
mod PieceLaws
mod RequestLaws
mod SendLaws
pub mod Laws
