-- One law for each way out of a push.
use mathlib.Core.Path.{◌≡◌, ◌∙◌}
use mathlib.Core.List.{List, [], ◌∷◌}
use Prim.Native.Nat.{ℕ, ◌+◌, ◌-◌, ◌<◌, ◌≤◌, ◌^◌}
use native.Mathlib.Omega.{arith}
use lib.ListN.{length}
use Rattle.cells.specs.Stretches.{cells_or, cells_from, written}
use Rattle.stack.specs.Stores.{open_limit, parent_limit, ancestor_limit, found_limit, name_limit, row_at, name_at, ids_at, ancestors_from, child_block, descendant_block, Stores, stores, opens, parents_top, ancestors_top, pairs_top, new_ancestors, with_row, pushed}
use Rattle.stack.specs.Laws.{cells-all}
use Rattle.pushes.specs.Kept.{kept}
use Rattle.pushes.proofs.Nodes.{kept-few, kept-bearers, kept-ancestors}

pub row-law : (rows r1 r2 : List ℕ) (n k p a t1 t2 t3 : ℕ) → t1 ≡ parents_top rows → t2 ≡ ancestors_top rows → t3 ≡ pairs_top rows
    → r1 ≡ written rows (row_at k) (cells_from (n ∷ 0 ∷ t1 ∷ t2 ∷ t3 ∷ []) 0 5) → r2 ≡ written r1 0 (cells_from (k ∷ p ∷ a ∷ []) 0 3) → r2 ≡ with_row rows n k p a
unfolding with_row cells_or
row-law rows r1 r2 n k p a t1 t2 t3 e1 e2 e3 f1 f2 = f2 ∙ rw (f1, e1, e2, e3)

pub push-law : (program : List ℕ) (limit : ℕ) (s : Stores) (x w found : List ℕ) (d t1 t2 p a : ℕ) (r' n' i' k1 k2 : List ℕ) → d ≡ opens s.rows → t1 ≡ parents_top s.rows → t2 ≡ ancestors_top s.rows
    → k1 ≡ written s.nodes (ancestors_from + t2) (kept (cells_from s.nodes ancestors_from t2) program limit descendant_block found)
    → a ≡ ancestors_from + t2 + length (kept (cells_from s.nodes ancestors_from t2) program limit descendant_block found)
    → k2 ≡ written k1 (t1 + 0) (kept (cells_from k1 t1 0) program limit child_block found) → p ≡ t1 + 0 + length (kept (cells_from k1 t1 0) program limit child_block found)
    → n' ≡ written s.names (name_at (d + 1)) (cells_from x 0 (length x)) → i' ≡ written s.ids (ids_at (d + 1)) (cells_from w 0 (length w))
    → r' ≡ with_row s.rows (length x) (d + 1) p (a - ancestors_from) → stores r' n' i' k2 ≡ pushed program limit s x w found
unfolding pushed
push-law program limit s x w found d t1 t2 p a r' n' i' k1 k2 ed e1 e2 ek1 ea ek2 ep en ei er =
    let old = cells_from s.nodes ancestors_from t2 in
    let fa = kept-ancestors old program limit found in
    let fp = kept-bearers k1 program limit child_block t1 found in
    let t : t1 + 0 ≡ t1 = omega arith in
    let ea' : a ≡ ancestors_from + t2 + length (new_ancestors old program limit found) = rw fa at ea in
    let z : a - ancestors_from ≡ t2 + length (new_ancestors old program limit found) = omega (arith, ea') in
    rw (er, en, ei, ek2, fp, ek1, fa, z, ep, fp, t, cells-all x, cells-all w, ed, e1, e2)

pub room-law : (program old k1 found : List ℕ) (limit n d t1 t2 p a : ℕ) → p ≡ t1 + 0 + length (kept (cells_from k1 t1 0) program limit child_block found) → a ≡ ancestors_from + t2 + length (kept old program limit descendant_block found)
    → n ≤ name_limit → d < open_limit → t1 ≤ parent_limit → t2 ≤ ancestor_limit → length found ≤ found_limit → (n < 2 ^ 16) × (d + 1 < 2 ^ 16) × (p < 2 ^ 16) × (a - ancestors_from < 2 ^ 16)
room-law program old k1 found limit n d t1 t2 p a ep ea hn hd h1 h2 hf =
    let f = kept-few (cells_from k1 t1 0) program limit child_block found in
    let g = kept-few old program limit descendant_block found in
    (omega arith, omega arith, omega arith, omega arith)
