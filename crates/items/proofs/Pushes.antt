-- One law for each way out of search and pop.
use mathlib.Core.Path.{◌≡◌, sym, ◌∙◌}
use mathlib.Core.Bool.{Bool, true, false}
use mathlib.Core.List.{List, [], ◌∷◌}
use Prim.Native.Nat.{ℕ, suc, ◌+◌, ◌-◌, ◌*◌, ◌<◌, ◌≤◌}
use native.Mathlib.Omega.{arith}
use borrow.Author.Tests.{eq-eqb, ne_eqb}
use lib.ListN.{get_or}
use Rattle.cells.specs.Stretches.{cells_or, cells_from, written}
use Rattle.stack.specs.Stores.{holds_name, row_at, name_at, ids_at, id_words, row_word, opens, nearest, through, popped_count, back_to, popped_rows, popped_ids}

-- ---- how many are popped
module _ (rows names x : List ℕ) (p : ℕ) (ep : p ≡ nearest rows names x (opens rows)) where
  pub pops-none : p ≡ 0 → (0 ≡ popped_count rows names x) × (0 ≤ opens rows)
  unfolding popped_count through
  pops-none z = (sym (rw (← ep, eq-eqb _ _ z)), omega arith)

  pub pops-some : (d : ℕ) → d ≡ opens rows → (p ≡ 0 → ⊥) → (d + 1 - p ≡ popped_count rows names x) × (d + 1 - p ≤ opens rows)
  unfolding popped_count through
  pops-some d ed h = (sym (rw (← ep, ← ed, ne_eqb _ _ h)), omega arith)

-- ---- the pop
module _ (rows ids out out' : List ℕ) (n d : ℕ) (ed : d ≡ opens rows) (eo : out' ≡ written out 0 (cells_from ids (ids_at (d - n + 1)) (n * id_words))) where
  pub pop-none : n ≡ 0 → (rows ≡ popped_rows rows n) × (out' ≡ popped_ids rows ids out n)
  unfolding popped_rows popped_ids
  pop-none h = (sym (rw (eq-eqb _ _ h)), eo ∙ rw ed)

  pub pop-some : (n ≡ 0 → ⊥) → (t1 t2 t3 : ℕ) (r' : List ℕ) → t1 ≡ row_word rows (d - n + 1) 2 → t2 ≡ row_word rows (d - n + 1) 3 → t3 ≡ row_word rows (d - n + 1) 4
      → r' ≡ written rows 0 (cells_from ((d - n) ∷ t1 ∷ t2 ∷ t3 ∷ []) 0 4) → (r' ≡ popped_rows rows n) × (out' ≡ popped_ids rows ids out n)
  unfolding popped_rows popped_ids back_to cells_or
  pop-some h t1 t2 t3 r' e1 e2 e3 er = (er ∙ sym (rw (ne_eqb _ _ h, ← ed, ← e1, ← e2, ← e3)), eo ∙ rw ed)

-- ---- looking for an open element
near-here : (rows names x : List ℕ) (k j : ℕ) → k ≡ suc j → holds_name names (name_at k) (get_or rows (row_at k) 0) x ≡ true → nearest rows names x k ≡ k
unfolding nearest
near-here rows names x k j e t =
    let z : row_at (suc j) + 0 ≡ row_at (suc j) = omega arith in
    let q : holds_name names (name_at (suc j)) (get_or rows (row_at (suc j)) 0) x ≡ true = rw e at t in
    rw (e, z, q)

near-later : (rows names x : List ℕ) (k j : ℕ) → k ≡ suc j → holds_name names (name_at k) (get_or rows (row_at k) 0) x ≡ false → nearest rows names x k ≡ nearest rows names x j
unfolding nearest
near-later rows names x k j e t =
    let z : row_at (suc j) + 0 ≡ row_at (suc j) = omega arith in
    let q : holds_name names (name_at (suc j)) (get_or rows (row_at (suc j)) 0) x ≡ false = rw e at t in
    rw (e, z, q)

module _ (rows names x : List ℕ) (p k : ℕ) (inv : p ≡ nearest rows names x k) where
  module _ (h : 0 < k) (n : ℕ) (b : Bool) (en : n ≡ get_or rows (row_at k) 0) (eb : b ≡ holds_name names (name_at k) n x) where
    pub open-here : b ≡ true → k ≡ p
    open-here t = sym (inv ∙ near-here rows names x k (k - 1) (omega arith) (rw (← en) (sym eb ∙ t)))

    pub open-later : b ≡ false → p ≡ nearest rows names x (k - 1)
    open-later t = inv ∙ near-later rows names x k (k - 1) (omega arith) (rw (← en) (sym eb ∙ t))

  pub open_none : k ≤ 0 → 0 ≡ p
  unfolding nearest
  open_none h = let e : k ≡ 0 = omega arith in sym (inv ∙ rw e)
