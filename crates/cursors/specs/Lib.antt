pub mod Cursors
pub mod CursorLaws
