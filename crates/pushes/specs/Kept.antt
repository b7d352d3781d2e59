-- Which found nodes a push writes.
use Rattle.std.specs.Prelude.{Bool, not, ◌&&◌, List, ℕ}
use Rattle.std.specs.List.{filter}
use Rattle.stack.specs.Stores.{bears, listed}

-- Whether a node has trees in the block and is not in the list `old`.
abbrev pub is_kept : (old program : List ℕ) (limit w a : ℕ) → Bool
is_kept old program limit w a = bears program limit w a && not (listed a old)

abbrev pub kept : (old program : List ℕ) (limit w : ℕ) → List ℕ → List ℕ
kept old program limit w found = filter (is_kept old program limit w) found
