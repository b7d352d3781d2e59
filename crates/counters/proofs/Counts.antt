-- One law for each way out of the functions that count.
use Rattle.std.proofs.Common.{◌≡◌, refl, sym, ◌∙◌, Option, Some, None, cond, is_some}
use mathlib.Core.Bool.{Bool, true, false}
use mathlib.Core.List.{List, [], ◌∷◌}
use Prim.Native.Nat.{ℕ, ◌+◌}
use lib.ListN.{length, get_or, set}
use Rattle.cells.specs.Stretches.{cells_or, cells_from, written}
use Rattle.stack.specs.Stores.{row_at, pair_at, pair_name_at, opens, pairs_top, pair_of, known, times_in, children, one_more, name_counted_rows, name_counted_names, counted_rows, counted_names}
use Rattle.stack.specs.Laws.{cells-all}

pub child-is : (rows : List ℕ) (k r : ℕ) → k ≡ opens rows → r ≡ get_or rows (row_at k + 1) 0 → r ≡ children rows
unfolding children
child-is rows k r ek er = rw (er, ek)

-- ---- the pair of a name, and what counting the name leaves
module _ (rows names x : List ℕ) where
  abbrev pub pair : Option ℕ
  pair = cond (known rows names x) (Some (pair_of rows names x)) None

  pub known_is : is_some pair ≡ known rows names x
  known_is = go (known rows names x)
    where
      go : (b : Bool) → is_some (cond b (Some (pair_of rows names x)) None) ≡ b
      go true = refl
      go false = refl

  module _ (o : Option ℕ) (e : o ≡ pair) where
    pub was_none : o ≡ None → known rows names x ≡ false
    was_none n = go (known rows names x) (sym n ∙ e)
      where
        go : (b : Bool) → None ≡ cond b (Some (pair_of rows names x)) None → b ≡ false
        go true h = cc
        go false h = refl

    pub was_some : (i : ℕ) → o ≡ Some i → (known rows names x ≡ true) × (i ≡ pair_of rows names x)
    was_some i n = go (known rows names x) (sym n ∙ e)
      where
        go : (b : Bool) → Some i ≡ cond b (Some (pair_of rows names x)) None → (b ≡ true) × (i ≡ pair_of rows names x)
        go true h = (refl, cc)
        go false h = cc

  pub times-none : known rows names x ≡ false → 0 ≡ times_in rows names x
  unfolding times_in
  times-none h = sym (rw h)

  pub times-found : known rows names x ≡ true → (i v : ℕ) → i ≡ pair_of rows names x → v ≡ get_or rows (pair_at i + 1) 0 → v ≡ times_in rows names x
  unfolding times_in
  times-found h i v ei e = sym (rw (h, ← ei, ← e))

  pub name-again : known rows names x ≡ true → (i v w : ℕ) (r' : List ℕ) → i ≡ pair_of rows names x → v ≡ get_or rows (pair_at i + 1) 0 → w ≡ one_more v → r' ≡ set rows (pair_at i + 1) w
      → (r' ≡ name_counted_rows rows names x) × (names ≡ name_counted_names rows names x)
  unfolding name_counted_rows name_counted_names written
  name-again h i v w r' ei ev ew er = (sym (rw (h, ← times-found h i v ei ev, ← ei, ← ew, ← er)), sym (rw h))

  pub name_new : known rows names x ≡ false → (top w : ℕ) (r1 r2 n' : List ℕ) → top ≡ pairs_top rows → r1 ≡ written rows (pair_at top) (cells_from (length x ∷ 1 ∷ []) 0 2) → w ≡ one_more top → r2 ≡ set r1 3 w
      → n' ≡ written names (pair_name_at top) (cells_from x 0 (length x)) → (r2 ≡ name_counted_rows rows names x) × (n' ≡ name_counted_names rows names x)
  unfolding name_counted_rows name_counted_names written cells_or
  name_new h top w r1 r2 n' et e1 ew e2 en = (sym (rw (h, ← et, ← ew, ← e1, ← e2)), en ∙ sym (rw (h, ← et, cells-all x)))

module _ (t : Bool) (rows names x : List ℕ) (k v n : ℕ) (ek : k ≡ opens rows) (ev : v ≡ get_or rows (row_at k + 1) 0) (en : n ≡ one_more v) where
  pub counted-types : t ≡ true → (r1 r2 n1 : List ℕ) → r1 ≡ name_counted_rows rows names x → n1 ≡ name_counted_names rows names x → r2 ≡ set r1 (row_at k + 1) n
      → (r2 ≡ counted_rows t rows names x) × (n1 ≡ counted_names t rows names x)
  unfolding counted_rows counted_names written
  counted-types h r1 r2 n1 e1 e2 e3 = (sym (rw (h, ← child-is rows k v ek ev, ← en, ← ek, ← e1, ← e3)), sym (rw (h, ← e2)))

  pub counted-children : t ≡ false → (r1 n1 : List ℕ) → n1 ≡ names → r1 ≡ set rows (row_at k + 1) n → (r1 ≡ counted_rows t rows names x) × (n1 ≡ counted_names t rows names x)
  unfolding counted_rows counted_names written
  counted-children h r1 n1 e0 e1 = (sym (rw (h, ← child-is rows k v ek ev, ← en, ← ek, ← e1)), e0 ∙ sym (rw h))
