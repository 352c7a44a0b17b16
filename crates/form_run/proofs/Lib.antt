pub mod ActLaws
pub mod BoundaryLaws
pub mod ChosenLaws
mod ChosenRows
pub mod CountLaws
pub mod FilesLaws
pub mod Laws
pub mod OneFront
pub mod OneTranscript
pub mod OpenableLaws
pub mod PageLaws
pub mod PieceLaws
pub mod ReplyLaws
pub mod Runs
pub mod ServedLaws
pub mod SoundLaws
pub mod SubmittedLaws
pub mod TranscriptLaws
