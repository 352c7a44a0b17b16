mod EntryLaws
mod LengthLaws
mod OptionLaws
mod UpwardLaws
