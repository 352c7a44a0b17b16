pub mod FlagLaws
pub mod KindLaws
pub mod Laws
pub mod PatternLaws
pub mod ValueLaws
