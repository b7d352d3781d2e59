pub mod MatchLines
