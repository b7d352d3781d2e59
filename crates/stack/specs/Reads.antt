-- What is read after each operation: what it wrote, and all other cells as they were.
use Rattle.std.specs.Prelude.{◌≡◌, Bool, true, false, cond, List, [], ◌∷◌, ℕ, ◌+◌, ◌<◌, ◌≤◌, length, get_or}
use Rattle.std.proofs.Common.{◌∙◌, arith}
use Rattle.cells.specs.Stretches.{written, length-written, get-below, get-above, get_in, get_off, get-on, cells_in}
use Rattle.stack.specs.Stores.{header_size, row_size, row_at, pair_at, pair_name_at, name_at, found_from, opens, parents_top, ancestors_top, pairs_top, row_word, children, one_more, pair_of, known, times_in, name_counted_rows, name_counted_names, counted_rows, with_row, back_header, back_to, held_name, held_found, held_words, held_rows, fresh_words, fresh_rows}

-- ---- a push: the new row and the header; rows below it, pairs and the rest of the header stay
module _ (rows : List ℕ) (n k parents ancestors : ℕ) where
  abbrev row : List ℕ
  row = n ∷ 0 ∷ parents_top rows ∷ ancestors_top rows ∷ pairs_top rows ∷ []

  abbrev header : List ℕ
  header = k ∷ parents ∷ ancestors ∷ []

  pub push-length : length (with_row rows n k parents ancestors) ≡ length rows
  unfolding with_row
  push-length = length-written (written rows (row_at k) row) 0 header ∙ length-written rows (row_at k) row

  pub push-below : (i : ℕ) → 3 ≤ i → i < row_at k → get_or (with_row rows n k parents ancestors) i 0 ≡ get_or rows i 0
  unfolding with_row
  push-below i h g = get-above (written rows (row_at k) row) 0 header i (omega arith) ∙ get-below rows (row_at k) row i g

  pub push-above : (i : ℕ) → row_at k + row_size ≤ i → get_or (with_row rows n k parents ancestors) i 0 ≡ get_or rows i 0
  unfolding with_row
  push-above i h = get-above (written rows (row_at k) row) 0 header i (omega arith) ∙ get-above rows (row_at k) row i (omega arith)

  module _ (room : row_at k + row_size ≤ length rows) where
    pub push-header : (j : ℕ) → j < 3 → get_or (with_row rows n k parents ancestors) (0 + j) 0 ≡ get_or (k ∷ parents ∷ ancestors ∷ []) j 0
    unfolding with_row
    push-header j h = get_in (written rows (row_at k) row) 0 header j h (rw length-written (omega arith))

    pub push_row : (j : ℕ) → j < 5 → row_word (with_row rows n k parents ancestors) k j ≡ get_or (n ∷ 0 ∷ parents_top rows ∷ ancestors_top rows ∷ pairs_top rows ∷ []) j 0
    unfolding with_row
    push_row j h = get-above (written rows (row_at k) row) 0 header (row_at k + j) (omega arith) ∙ get_in rows (row_at k) row j h (omega arith)

-- ---- counting: the child count of the open level; else what counting the name leaves
module _ (types : Bool) (rows names x : List ℕ) where
  pub count-off : (i : ℕ) → (i ≡ row_at (opens rows) + 1 → ⊥) → get_or (counted_rows types rows names x) i 0 ≡ get_or (cond types (name_counted_rows rows names x) rows) i 0
  unfolding counted_rows
  count-off i h = get_off (cond types (name_counted_rows rows names x) rows) (row_at (opens rows) + 1) (one_more (children rows)) i h

  pub count-children : row_at (opens rows) + row_size ≤ length (cond types (name_counted_rows rows names x) rows) → get_or (counted_rows types rows names x) (row_at (opens rows) + 1) 0 ≡ one_more (children rows)
  unfolding counted_rows
  count-children room = get-on (cond types (name_counted_rows rows names x) rows) (row_at (opens rows) + 1) (one_more (children rows)) (omega arith)

  pub count-length : length (counted_rows types rows names x) ≡ length (cond types (name_counted_rows rows names x) rows)
  unfolding counted_rows
  count-length = length-written (cond types (name_counted_rows rows names x) rows) (row_at (opens rows) + 1) (one_more (children rows) ∷ [])

-- ---- a name that is known: its times; else all stays
module _ (rows names x : List ℕ) (old : known rows names x ≡ true) where
  pub again-off : (i : ℕ) → (i ≡ pair_at (pair_of rows names x) + 1 → ⊥) → get_or (name_counted_rows rows names x) i 0 ≡ get_or rows i 0
  unfolding name_counted_rows
  again-off i h = rw old (get_off rows (pair_at (pair_of rows names x) + 1) (one_more (times_in rows names x)) i h)

  pub again-times : pair_at (pair_of rows names x) + 1 < length rows → get_or (name_counted_rows rows names x) (pair_at (pair_of rows names x) + 1) 0 ≡ one_more (times_in rows names x)
  unfolding name_counted_rows
  again-times room = rw old (get-on rows (pair_at (pair_of rows names x) + 1) (one_more (times_in rows names x)) room)

  pub again-length : length (name_counted_rows rows names x) ≡ length rows
  unfolding name_counted_rows
  again-length = rw old (length-written rows (pair_at (pair_of rows names x) + 1) (one_more (times_in rows names x) ∷ []))

  pub again-names : name_counted_names rows names x ≡ names
  unfolding name_counted_names
  again-names = rw old

-- ---- a new name: the pair at the top, counted once, and the top one higher
module _ (rows names x : List ℕ) (new : known rows names x ≡ false) where
  abbrev with_pair : List ℕ
  with_pair = written rows (pair_at (pairs_top rows)) (length x ∷ 1 ∷ [])

  pub new-off : (i : ℕ) → (i ≡ 3 → ⊥) → i < pair_at (pairs_top rows) → get_or (name_counted_rows rows names x) i 0 ≡ get_or rows i 0
  unfolding name_counted_rows
  new-off i h g = rw new (get_off with_pair 3 (one_more (pairs_top rows)) i h ∙ get-below rows (pair_at (pairs_top rows)) (length x ∷ 1 ∷ []) i g)

  pub new-length : length (name_counted_rows rows names x) ≡ length rows
  unfolding name_counted_rows
  new-length = rw new (length-written with_pair 3 (one_more (pairs_top rows) ∷ []) ∙ length-written rows (pair_at (pairs_top rows)) (length x ∷ 1 ∷ []))

  pub new-names : name_counted_names rows names x ≡ written names (pair_name_at (pairs_top rows)) x
  unfolding name_counted_names
  new-names = rw new

  module _ (room : pair_at (pairs_top rows) + 2 ≤ length rows) where
    pub new-top : pairs_top (name_counted_rows rows names x) ≡ one_more (pairs_top rows)
    unfolding name_counted_rows
    new-top = rw new (get-on with_pair 3 (one_more (pairs_top rows)) (rw length-written (omega arith)))

    pub new_pair : (j : ℕ) → j < 2 → get_or (name_counted_rows rows names x) (pair_at (pairs_top rows) + j) 0 ≡ get_or (length x ∷ 1 ∷ []) j 0
    unfolding name_counted_rows
    new_pair j h = rw new (get_off with_pair 3 (one_more (pairs_top rows)) (pair_at (pairs_top rows) + j) (λ e. omega arith) ∙ get_in rows (pair_at (pairs_top rows)) (length x ∷ 1 ∷ []) j h room)

-- ---- a pop: four words of the header; all else stays
module _ (rows : List ℕ) (k : ℕ) where
  pub back_above : (i : ℕ) → 4 ≤ i → get_or (back_to rows k) i 0 ≡ get_or rows i 0
  unfolding back_to
  back_above i h = get-above rows 0 (back_header rows k) i (omega arith)

  pub back-header : header_size ≤ length rows → (j : ℕ) → j < 4 → get_or (back_to rows k) (0 + j) 0 ≡ get_or (back_header rows k) j 0
  unfolding back_to
  back-header room j h = get_in rows 0 (back_header rows k) j h (omega arith)

  pub back-length : length (back_to rows k) ≡ length rows
  unfolding back_to
  back-length = length-written rows 0 (back_header rows k)

-- ---- the waiting record reads back as it was written; the stack's words stay
module _ (rows : List ℕ) (x : List ℕ) (kind : ℕ) (found : List ℕ) (stage slot at stop : ℕ) where
  pub held_below : (i : ℕ) → i < 4 → get_or (held_rows rows x kind found stage slot at stop) i 0 ≡ get_or rows i 0
  unfolding held_rows
  held_below i h = get-below rows 4 (held_words x kind found stage slot at stop) i h

  pub held-above : (i : ℕ) → 12 ≤ i → get_or (held_rows rows x kind found stage slot at stop) i 0 ≡ get_or rows i 0
  unfolding held_rows
  held-above i h = get-above rows 4 (held_words x kind found stage slot at stop) i (omega arith)

  pub held-length : length (held_rows rows x kind found stage slot at stop) ≡ length rows
  unfolding held_rows
  held-length = length-written rows 4 (held_words x kind found stage slot at stop)

  module _ (room : header_size ≤ length rows) where
    pub held_word : (j : ℕ) → j < 8 → get_or (held_rows rows x kind found stage slot at stop) (4 + j) 0 ≡ get_or (held_words x kind found stage slot at stop) j 0
    unfolding held_rows
    held_word j h = get_in rows 4 (held_words x kind found stage slot at stop) j h (omega arith)

    pub held-name : (names : List ℕ) → length x ≤ length names → held_name (held_rows rows x kind found stage slot at stop) (written names (name_at 0) x) ≡ x
    held-name names h = rw (held_word 1 (omega arith)) (cells_in names 0 x (omega arith))

    pub held_found_lem : (nodes : List ℕ) → found_from + length found ≤ length nodes → held_found (held_rows rows x kind found stage slot at stop) (written nodes found_from found) ≡ found
    held_found_lem nodes h = rw (held_word 3 (omega arith)) (cells_in nodes found_from found h)

-- ---- a fresh machine: header and root row as listed; all else stays
module _ (rows : List ℕ) (mark sheet flags : ℕ) where
  pub fresh-word : header_size + row_size ≤ length rows → (j : ℕ) → j < 24 → get_or (fresh_rows rows mark sheet flags) (0 + j) 0 ≡ get_or (fresh_words mark sheet flags) j 0
  unfolding fresh_rows
  fresh-word room j h = get_in rows 0 (fresh_words mark sheet flags) j h (omega arith)

  pub fresh-length : length (fresh_rows rows mark sheet flags) ≡ length rows
  unfolding fresh_rows
  fresh-length = length-written rows 0 (fresh_words mark sheet flags)
