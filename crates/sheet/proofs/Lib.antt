pub mod WalkLaws
pub mod SheetLaws
pub mod SpellingLaws
pub mod TypeLaws
