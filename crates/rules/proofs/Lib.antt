pub mod OutlineTurns
