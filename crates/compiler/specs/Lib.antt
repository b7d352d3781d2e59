pub mod Compiler
pub mod StoreLaws
pub mod MadeLaws
pub mod Placing
pub mod Examples
