-- The definitions run over full-size stores that held 7 in every cell: P11 of 01, section 6, with the ids that go out and what stays counted.
use Rattle.std.specs.Prelude.{◌≡◌, refl, true, List, [], ◌∷◌, ℕ, replicate}
use Rattle.cells.specs.Stretches.{cells_or, written}
use Rattle.stack.specs.Stores.{rows_size, names_size, ids_size, nodes_size, Stores, stores, opens, pairs_top, children, one_more, holds_name, find_pair, pair_of, known, times_in, name_counted_rows, name_counted_names, counted_rows, counted_names, counted, bearers, listed, new_ancestors, with_row, pushed, nearest, through, popped_count, back_to, popped_rows, popped_ids, popped, fresh_rows, fresh}

-- The names div, span and p.
abbrev div : List ℕ
div = 100 ∷ 105 ∷ 118 ∷ []

abbrev span : List ℕ
span = 115 ∷ 112 ∷ 97 ∷ 110 ∷ []

abbrev p : List ℕ
p = 112 ∷ []

-- A fresh machine.
abbrev start : Stores
start = fresh (stores (replicate rows_size 7) (replicate names_size 7) (replicate ids_size 7) (replicate nodes_size 7)) 1 9 0

-- An element comes with two id words and no matched nodes: it is counted, types too, and pushed.
abbrev come : List ℕ → List ℕ → Stores → Stores
come x ids s = pushed [] 0 (counted true s x) x ids []

-- div, and in it span.
abbrev two : Stores
two = come span (3 ∷ 4 ∷ []) (come div (1 ∷ 2 ∷ []) start)

pub p11 : popped_count two.rows two.names p ∷ popped_count two.rows two.names div ∷ [] ≡ 0 ∷ 2 ∷ []
unfolding cells_or written fresh_rows pushed with_row bearers new_ancestors listed counted_rows counted_names name_counted_rows name_counted_names known times_in pair_of find_pair holds_name one_more children popped_count through nearest
p11 = refl

-- The closed one's ids first; the word past them stays.
pub p11-ids : popped_ids two.rows two.ids (replicate 5 9) 2 ≡ 1 ∷ 2 ∷ 3 ∷ 4 ∷ 9 ∷ []
unfolding cells_or written fresh_rows pushed with_row bearers new_ancestors listed counted_rows counted_names name_counted_rows name_counted_names known times_in pair_of find_pair holds_name one_more children popped_ids
p11-ids = refl

-- Then nothing is open, one child and one pair are counted at the root, and div was counted there once, span not.
pub p11-left : opens (popped two 2).rows ∷ children (popped two 2).rows ∷ pairs_top (popped two 2).rows ∷ times_in (popped two 2).rows two.names div ∷ times_in (popped two 2).rows two.names span ∷ [] ≡ 0 ∷ 1 ∷ 1 ∷ 1 ∷ 0 ∷ []
unfolding cells_or written fresh_rows pushed with_row bearers new_ancestors listed counted_rows counted_names name_counted_rows name_counted_names known times_in pair_of find_pair holds_name one_more children popped_rows back_to
p11-left = refl
