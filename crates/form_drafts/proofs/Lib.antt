pub mod DraftLaws
pub mod EachLaws
mod JoinedLaws
pub mod KeyPlaces
pub mod LikeLaws
pub mod Mild
mod MovedLaws
mod OptionLaws
pub mod SoFarLaws
