-- A push, and what the stores then stand for.
use Rattle.std.specs.Prelude.{◌≡◌, refl, List, [], ◌∷◌, ℕ, zero, suc, ◌+◌, ◌-◌, ◌<◌, ◌≤◌, length, get_or}
use Rattle.std.proofs.Common.{◌∙◌, add-one}
use native.Mathlib.Omega.{arith}
use Rattle.cells.specs.Stretches.{cells_from, written, length-written, cells-below, cells-above, cells_in}
use Rattle.stack.specs.Stores as stack
use Rattle.stack.specs.Stores.{Stores, stores, open_limit, pair_limit, parent_limit, ancestor_limit, name_limit, id_words, rows_size, names_size, ids_size, nodes_size, row_at, pair_at, name_at, pair_name_at, ids_at, row_word, bearers, new_ancestors, child_block, with_row, pushed}
use Rattle.stack.specs.Reads.{push-below, push-above, push-header, push_row}
use Rattle.meaning.specs.Machine.{bare}
use Rattle.demand.specs.Decode.{hd, pairs_at, view, level_at, items_at, stack_at, stack_of, Tidy, Alike, frames-alike, tidy-alike, tidy-pm}

-- Pairs are what their cells and names are.
pub pairs-same : (rows rows' names names' : List ℕ) (i n : ℕ)
    → ((j : ℕ) → i ≤ j → j < i + n → get_or rows' (pair_at j) 0 ≡ get_or rows (pair_at j) 0)
    → ((j : ℕ) → i ≤ j → j < i + n → get_or rows' (pair_at j + 1) 0 ≡ get_or rows (pair_at j + 1) 0)
    → ((j : ℕ) → i ≤ j → j < i + n → cells_from names' (pair_name_at j) (get_or rows (pair_at j) 0) ≡ cells_from names (pair_name_at j) (get_or rows (pair_at j) 0))
    → pairs_at rows' names' i n ≡ pairs_at rows names i n
unfolding pairs_at
pairs-same rows rows' names names' i zero f g h = refl
pairs-same rows rows' names names' i (suc n) f g h =
    rw (
      f i (omega arith) (omega arith),
      g i (omega arith) (omega arith),
      h i (omega arith) (omega arith),
      pairs-same rows rows' names names' (i + 1) n (λ j a b. f j (omega arith) (omega arith)) (λ j a b. g j (omega arith) (omega arith)) (λ j a b. h j (omega arith) (omega arith)),
    )

-- A push of these nodes.
abbrev pub entered : Stores → (name words parents ancestors : List ℕ) → Stores
entered s x w ps as' =
    stores (with_row s.rows (length x) (suc (hd s 0)) (hd s 1 + length ps) (hd s 2 + length as'))
    (written s.names (name_at (suc (hd s 0))) x)
    (written s.ids (ids_at (suc (hd s 0))) w)
    (written (written s.nodes (parent_limit + hd s 2) as') (hd s 1) ps)

pub pushed-is : (program : List ℕ) (limit : ℕ) (s : Stores) (x w found : List ℕ)
    → pushed program limit s x w found ≡ entered s x w (bearers program limit child_block found) (new_ancestors (stack.ancestors s) program limit found)
unfolding pushed
pushed-is program limit s x w found = rw (add-one (hd s 0))

module _ (s : Stores) (x w ps as' : List ℕ)
    (fr : rows_size ≤ length s.rows) (fn : names_size ≤ length s.names) (fi : ids_size ≤ length s.ids) (fk : nodes_size ≤ length s.nodes)
    (ho : hd s 0 < open_limit) (hk : hd s 1 + length ps ≤ parent_limit) (ha : hd s 2 + length as' ≤ ancestor_limit) (hx : length x ≤ name_limit) (hw : length w ≡ id_words) where
  abbrev s' : Stores
  s' = entered s x w ps as'

  -- the rest of the header, the rows below, the pairs
  old : (i : ℕ) → 3 ≤ i → i < row_at (suc (hd s 0)) → get_or s'.rows i 0 ≡ get_or s.rows i 0
  old i h g = push-below s.rows (length x) (suc (hd s 0)) (hd s 1 + length ps) (hd s 2 + length as') i h g

  far : (i : ℕ) → row_at (suc (hd s 0)) + 8 ≤ i → get_or s'.rows i 0 ≡ get_or s.rows i 0
  far i h = push-above s.rows (length x) (suc (hd s 0)) (hd s 1 + length ps) (hd s 2 + length as') i h

  row : (j : ℕ) → j < 5 → row_word s'.rows (suc (hd s 0)) j ≡ get_or (length x ∷ 0 ∷ hd s 1 ∷ hd s 2 ∷ hd s 3 ∷ []) j 0
  row j h = push_row s.rows (length x) (suc (hd s 0)) (hd s 1 + length ps) (hd s 2 + length as') (omega arith) j h

  header : (j : ℕ) → j < 3 → get_or s'.rows (0 + j) 0 ≡ get_or (suc (hd s 0) ∷ (hd s 1 + length ps) ∷ (hd s 2 + length as') ∷ []) j 0
  header j h = push-header s.rows (length x) (suc (hd s 0)) (hd s 1 + length ps) (hd s 2 + length as') (omega arith) j h

  pairs-kept : (a b : ℕ) → b ≤ pair_limit → a ≤ b → pairs_at s'.rows s'.names a (b - a) ≡ pairs_at s.rows s.names a (b - a)
  pairs-kept a b h g =
      pairs-same s.rows s'.rows s.names s'.names a (b - a) (λ j p q. far (pair_at j) (omega arith)) (λ j p q. far (pair_at j + 1) (omega arith))
      (λ j p q. cells-above s.names (name_at (suc (hd s 0))) x (pair_name_at j) (get_or s.rows (pair_at j) 0) (omega arith))

  push-alike : hd s 3 ≤ pair_limit → Alike (view s) (view s') (hd s 0) (hd s 1) (hd s 2) (hd s 3)
  push-alike hp = record {
    name_length = λ j p q. old (row_at j + 0) (omega arith) (omega arith);
    parents_mark = λ j q. old (row_at j + 2) (omega arith) (omega arith);
    ancestors_mark = λ j q. old (row_at j + 3) (omega arith) (omega arith);
    pairs_mark = λ j q. old (row_at j + 4) (omega arith) (omega arith);
    children = λ j q. old (row_at j + 1) (omega arith) (omega arith);
    name = λ j p q l. rw (old (row_at j + 0) (omega arith) (omega arith)) (cells-below s.names (name_at (suc (hd s 0))) x (name_at j) (row_word s.rows j 0) (omega arith));
    ids = λ j p q. cells-below s.ids (ids_at (suc (hd s 0))) w (ids_at j) id_words (omega arith);
    parents = λ a b h g. cells-below (written s.nodes (parent_limit + hd s 2) as') (hd s 1) ps a (b - a) (omega arith) ∙ cells-below s.nodes (parent_limit + hd s 2) as' a (b - a) (omega arith);
    ancestors = λ a b h g. cells-above (written s.nodes (parent_limit + hd s 2) as') (hd s 1) ps (parent_limit + a) (b - a) (omega arith) ∙ cells-below s.nodes (parent_limit + hd s 2) as' (parent_limit + a) (b - a) (omega arith);
    pairs = λ a b h g. pairs-kept a b (omega arith) g;
  }

  new-parents : cells_from s'.nodes (hd s 1) (hd s 1 + length ps - hd s 1) ≡ ps
  new-parents =
      let e : hd s 1 + length ps - hd s 1 ≡ length ps = omega arith in
      rw e (cells_in (written s.nodes (parent_limit + hd s 2) as') (hd s 1) ps (rw length-written (omega arith)))

  new-ancestors : cells_from s'.nodes (parent_limit + hd s 2) (hd s 2 + length as' - hd s 2) ≡ as'
  new-ancestors =
      let e : hd s 2 + length as' - hd s 2 ≡ length as' = omega arith in
      rw e (cells-above (written s.nodes (parent_limit + hd s 2) as') (hd s 1) ps (parent_limit + hd s 2) (length as') (omega arith) ∙ cells_in s.nodes (parent_limit + hd s 2) as' (omega arith))

  new-words : cells_from s'.ids (ids_at (suc (hd s 0))) id_words ≡ w
  new-words = rw hw at (cells_in s.ids (ids_at (suc (hd s 0))) w (omega arith))

  new_name : cells_from s'.names (name_at (suc (hd s 0))) (length x) ≡ x
  new_name = cells_in s.names (name_at (suc (hd s 0))) x (omega arith)

  no_pairs : pairs_at s'.rows s'.names (hd s 3) (hd s 3 - hd s 3) ≡ []
  unfolding pairs_at
  no_pairs = let e : hd s 3 - hd s 3 ≡ 0 = omega arith in rw e

  -- The header after it.
  pub push-0 : hd s' 0 ≡ suc (hd s 0)
  push-0 = header 0 (omega arith)

  pub push-1 : hd s' 1 ≡ hd s 1 + length ps
  push-1 = header 1 (omega arith)

  pub push-2 : hd s' 2 ≡ hd s 2 + length as'
  push-2 = header 2 (omega arith)

  pub push-more : (i : ℕ) → 3 ≤ i → i < 16 → hd s' i ≡ hd s i
  push-more i h g = old i h (omega arith)

  pub push-far : (i : ℕ) → i < pair_limit → get_or s'.rows (pair_at i) 0 ≡ get_or s.rows (pair_at i) 0
  push-far i h = far (pair_at i) (omega arith)

  -- The stack after a push: the new element on the old ones.
  pub push-stack : hd s 3 ≤ pair_limit → Tidy (view s) (hd s 0) (hd s 1) (hd s 2) (hd s 3)
      → stack_of s' ≡ record { top = bare; items = record { name = x; ids = w; parents = ps; ancestors = as'; outer = (stack_of s).top } ∷ (stack_of s).items }
  unfolding items_at level_at
  push-stack hp t =
      let q = tidy-pm (view s) (hd s 0) (hd s 1) (hd s 2) (hd s 3) t in
      (λ i. stack_at (view s') (push-0 i) (push-1 i) (push-2 i) (push-more 3 (omega arith) (omega arith) i))
      ∙ rw (
        row 0 (omega arith),
        row 1 (omega arith),
        row 2 (omega arith),
        row 3 (omega arith),
        row 4 (omega arith),
        new-parents,
        new-ancestors,
        new-words,
        new_name,
        no_pairs,
        old (row_at (hd s 0) + 1) (omega arith) (omega arith),
        old (row_at (hd s 0) + 4) (omega arith) (omega arith),
        pairs-kept (row_word s.rows (hd s 0) 4) (hd s 3) hp q,
        frames-alike (view s) (view s') (hd s 0) (hd s 1) (hd s 2) (hd s 3) (push-alike hp) (hd s 0) (hd s 1) (hd s 2) (hd s 3) (omega arith) (omega arith) (omega arith) (omega arith) t,
      )

  pub push-tidy : hd s 3 ≤ pair_limit → Tidy (view s) (hd s 0) (hd s 1) (hd s 2) (hd s 3) → Tidy (view s') (suc (hd s 0)) (hd s 1 + length ps) (hd s 2 + length as') (hd s 3)
  push-tidy hp t =
      rw (row 0 (omega arith), row 2 (omega arith), row 3 (omega arith), row 4 (omega arith))
      (omega arith, omega arith, omega arith, hx, tidy-alike (view s) (view s') (hd s 0) (hd s 1) (hd s 2) (hd s 3) (push-alike hp) (hd s 0) (hd s 1) (hd s 2) (hd s 3) (omega arith) t)
