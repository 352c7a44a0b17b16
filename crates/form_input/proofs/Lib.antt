mod CarriageReturns
mod CountWords
mod FileNames
mod FirstPassing
mod LineBreaks
mod MovedBytes
mod ScriptLines
mod Texts
pub mod Laws
