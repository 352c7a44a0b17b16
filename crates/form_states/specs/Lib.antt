pub mod Numbers
pub mod Limits
pub mod Range
pub mod Sanitised
pub mod States
pub mod NumberLaws
pub mod RangeLaws
pub mod Laws
