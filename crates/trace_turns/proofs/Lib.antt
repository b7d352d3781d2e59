mod Bounds
mod Turns
