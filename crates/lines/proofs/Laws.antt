-- Lines put piece by piece.
use mathlib.Core.List.{List, ◌++◌}
use mathlib.Core.Path.{◌≡◌}
use Prim.Native.Nat.{ℕ, ◌+◌}
use lib.ListN.{length}
use Rattle.cells.specs.Stretches.{written}
use Rattle.text.specs.Text.{Wrote, decimal}
use Rattle.text.proofs.Laws.{then}
use Rattle.lines.specs.Lines.{new_line, sheet_word, at_word, number_line, sheet_line}

pub number_put : (o o₁ o₂ o₃ word : List ℕ) (at m k r n : ℕ)
    → m ≡ at + length word → o₁ ≡ written o at word → k ≡ m + length (decimal n) → o₂ ≡ written o₁ m (decimal n) → r ≡ k + 1 → o₃ ≡ written o₂ k new_line
    → Wrote o at (number_line word n) r o₃
unfolding number_line
number_put o o₁ o₂ o₃ word at m k r n a b c d e f =
    let w = then o o₁ o₂ word (decimal n) at m k a b c d in
    then o o₂ o₃ (word ++ decimal n) new_line at k r w.0 w.1 e f

pub sheet-put : (o o₁ o₂ o₃ : List ℕ) (at m k r n place : ℕ)
    → m ≡ at + 14 → o₁ ≡ written o at sheet_word → k ≡ m + length (decimal n) → o₂ ≡ written o₁ m (decimal n)
    → r ≡ k + length (number_line at_word place) → o₃ ≡ written o₂ k (number_line at_word place) → Wrote o at (sheet_line n place) r o₃
unfolding sheet_line
sheet-put o o₁ o₂ o₃ at m k r n place a b c d e f =
    let w = then o o₁ o₂ sheet_word (decimal n) at m k a b c d in
    then o o₂ o₃ (sheet_word ++ decimal n) (number_line at_word place) at k r w.0 w.1 e f
