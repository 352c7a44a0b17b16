pub mod WrittenLaws
pub mod ShelfLaws
pub mod ReadingLaws
pub mod Laws
