pub mod Shapes
pub mod Passing
