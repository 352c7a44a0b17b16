mod ChangeLaws
mod CountLaws
mod EditLaws
mod FileLaws
mod InvalidLaws
mod Lists
pub mod MemberLaws
mod OpeningLaws
pub mod OwnedLaws
mod OwnerLaws
mod RadioLaws
mod StateLaws
mod ViewLaws
