pub mod BoundaryLaws
pub mod EscapeLaws
pub mod JoinLaws
mod ScanLaws
mod FedLaws
pub mod FreeLaws
mod MarkLaws
mod SeamLaws
