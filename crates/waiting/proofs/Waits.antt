-- One law for each way out of the functions of the waiting record.
use mathlib.Core.Path.{◌≡◌, ◌∙◌}
use mathlib.Core.List.{List, [], ◌∷◌}
use Prim.Native.Nat.{ℕ}
use lib.ListN.{length}
use Rattle.cells.specs.Stretches.{cells_or, cells_from, written}
use Rattle.stack.specs.Stores.{found_from, held_rows}
use Rattle.stack.specs.Laws.{cells-all}

pub hold-law : (rows names nodes x found r' n' k' : List ℕ) (kind stage slot at stop : ℕ) → r' ≡ written rows 4 (cells_from (1 ∷ length x ∷ kind ∷ length found ∷ stage ∷ slot ∷ at ∷ stop ∷ []) 0 8)
    → n' ≡ written names 0 (cells_from x 0 (length x)) → k' ≡ written nodes found_from (cells_from found 0 (length found))
    → (r' ≡ held_rows rows x kind found stage slot at stop) × (n' ≡ written names 0 x) × (k' ≡ written nodes found_from found)
unfolding held_rows cells_or
hold-law rows names nodes x found r' n' k' kind stage slot at stop er en ek = (er, en ∙ rw (cells-all x), ek ∙ rw (cells-all found))

pub copied-law : (from out out' : List ℕ) (at n m : ℕ) → n ≡ m → out' ≡ written out 0 (cells_from from at n) → (n ≡ m) × (out' ≡ written out 0 (cells_from from at m))
copied-law from out out' at n m e f = (e, f ∙ rw e)
