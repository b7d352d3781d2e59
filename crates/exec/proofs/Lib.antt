pub mod ScanTurns
pub mod TestBudget
