pub mod AttrCounts
pub mod AttrSet
pub mod ValueLaws
