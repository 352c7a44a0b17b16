mod FrontLaws
pub mod Laws
mod LineEndLaws
mod NumberLaws
mod PlaceLaws
mod UnitLaws
mod ValueLaws
mod WhitespaceLaws
mod WordLaws
