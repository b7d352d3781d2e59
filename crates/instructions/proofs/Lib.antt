mod TestTurns
mod IdTurns
