pub mod EntryList
pub mod Below
