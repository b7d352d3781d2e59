pub mod Course
pub mod CourseLaws
