mod Kept
mod SheetsTaken
