-- A tag counts at its level: the child count and the pairs of names; and what the stores then stand for.
use Rattle.std.specs.Prelude.{◌≡◌, refl, Bool, length}
use Rattle.std.proofs.Common.{sym, ◌∙◌, subst}
use Rattle.std.proofs.Math.Path.{ap}
use Rattle.std.proofs.Math.Bool.{true, false, cond}
use Rattle.std.proofs.lemmas.Bool.{false≢true}
use mathlib.Core.List.{List, [], ◌∷◌}
use Prim.Native.Nat.{ℕ, zero, suc, ◌+◌, ◌-◌, ◌<◌, ◌≤◌}
use native.Mathlib.Omega.{arith}
use Rattle.std.proofs.Math.Numerals.{add-one}
use Rattle.std.proofs.Math.ListN.{get_or}
use Rattle.std.proofs.Math.Dec.{eqb}
use borrow.Author.Tests.{ltb-true, ltb-false, eqb-true, eqb-false}
use Rattle.cells.specs.Stretches.{cells_from, written, length-written, cells-below, cells_in}
use Rattle.letters.specs.Bytes.{equal_bytes}
use Rattle.stack.specs.Stores as stack
use Rattle.stack.specs.Stores.{Stores, stores, open_limit, pair_limit, parent_limit, ancestor_limit, name_limit, rows_size, names_size, ids_size, nodes_size, row_at, pair_at, name_at, pair_name_at, row_word, count_limit, holds_name, find_pair, pair_of, times_in, counted_rows, counted_names, counted}
use Rattle.stack.specs.Laws.{one_more_lem}
use Rattle.stack.specs.Reads.{count-off, count-children, count-length, again-off, again-times, again-length, again-names, new-off, new-length, new-names, new-top, new_pair}
use Rattle.meaning.specs.Machine.{Counter, count_name}
use Rattle.demand.specs.Decode.{hd, pair_name, count_at, pairs_at, view, level_at, stack_at, stack_of, Tidy, Alike, frames-alike, tidy-alike, tidy-pm, tidy-self, tidy-more}
use Rattle.demand.proofs.Reading.{same_bytes, find-low}
use Rattle.demand.proofs.Pushing.{pairs-same}

-- Stores as a fresh machine and accepted calls leave them: sizes, tops within their limits and in order, names short; no pairs where types are not counted.
pub record Good (types : Bool) (s : Stores) : Type 0 where
  pub rows : rows_size ≤ length s.rows
  pub names : names_size ≤ length s.names
  pub ids : ids_size ≤ length s.ids
  pub nodes : nodes_size ≤ length s.nodes
  pub deep : hd s 0 ≤ open_limit
  pub kt : hd s 1 ≤ parent_limit
  pub at : hd s 2 ≤ ancestor_limit
  pub pt : hd s 3 ≤ pair_limit
  pub tidy : Tidy (view s) (hd s 0) (hd s 1) (hd s 2) (hd s 3)
  pub short : (i : ℕ) → i < hd s 3 → get_or s.rows (pair_at i) 0 ≤ name_limit
  pub plain : types ≡ false → hd s 3 ≡ 0

-- ---- the pairs of a level
module _ (rows rows' names x : List ℕ) where
  bump-again : (a n : ℕ) → find_pair rows names x a n < a + n
      → ((j : ℕ) → a ≤ j → j < a + n → get_or rows' (pair_at j) 0 ≡ get_or rows (pair_at j) 0)
      → ((j : ℕ) → (j ≡ find_pair rows names x a n → ⊥) → a ≤ j → j < a + n → get_or rows' (pair_at j + 1) 0 ≡ get_or rows (pair_at j + 1) 0)
      → get_or rows' (pair_at (find_pair rows names x a n) + 1) 0 ≡ suc (get_or rows (pair_at (find_pair rows names x a n) + 1) 0)
      → pairs_at rows' names a n ≡ count_name x (pairs_at rows names a n)
  unfolding pairs_at find_pair holds_name
  bump-again a zero h f g e = absurd (let q : ⊥ = omega arith in q)
  bump-again a (suc n) h f g e =
      go (equal_bytes x (pair_name rows names a)) h g e (λ h' g' e'. bump-again (a + 1) n h' (λ j p q. f j (omega arith) (omega arith)) g' e')
      ∙ ap (λ b. cond b (record { name = pair_name rows names a; times = suc (get_or rows (pair_at a + 1) 0) } ∷ pairs_at rows names (a + 1) n) (count_at rows names a ∷ count_name x (pairs_at rows names (a + 1) n))) (same_bytes x (pair_name rows names a))
    where
      F : ℕ
      F = find_pair rows names x (a + 1) n

      go : (b : Bool) → cond b a F < a + suc n
          → ((j : ℕ) → (j ≡ cond b a F → ⊥) → a ≤ j → j < a + suc n → get_or rows' (pair_at j + 1) 0 ≡ get_or rows (pair_at j + 1) 0)
          → get_or rows' (pair_at (cond b a F) + 1) 0 ≡ suc (get_or rows (pair_at (cond b a F) + 1) 0)
          → (F < a + 1 + n → ((j : ℕ) → (j ≡ F → ⊥) → a + 1 ≤ j → j < a + 1 + n → get_or rows' (pair_at j + 1) 0 ≡ get_or rows (pair_at j + 1) 0) → get_or rows' (pair_at F + 1) 0 ≡ suc (get_or rows (pair_at F + 1) 0) → pairs_at rows' names (a + 1) n ≡ count_name x (pairs_at rows names (a + 1) n))
          → count_at rows' names a ∷ pairs_at rows' names (a + 1) n ≡ cond b (record { name = pair_name rows names a; times = suc (get_or rows (pair_at a + 1) 0) } ∷ pairs_at rows names (a + 1) n) (count_at rows names a ∷ count_name x (pairs_at rows names (a + 1) n))
      go true h g e ih =
          rw (f a (omega arith) (omega arith), e, pairs-same rows rows' names names (a + 1) n (λ j p q. f j (omega arith) (omega arith)) (λ j p q. g j (λ z. omega arith) (omega arith) (omega arith)) (λ j p q. refl))
      go false h g e ih =
          let l = find-low rows names x (a + 1) n in
          rw (f a (omega arith) (omega arith), g a (λ z. omega arith) (omega arith) (omega arith), ih (omega arith) (λ j z p q. g j z (omega arith) (omega arith)) e)

module _ (rows rows' names names' x : List ℕ) where
  bump-new : (a n : ℕ) → a + n ≤ find_pair rows names x a n
      → ((j : ℕ) → a ≤ j → j < a + n → get_or rows' (pair_at j) 0 ≡ get_or rows (pair_at j) 0)
      → ((j : ℕ) → a ≤ j → j < a + n → get_or rows' (pair_at j + 1) 0 ≡ get_or rows (pair_at j + 1) 0)
      → ((j : ℕ) → a ≤ j → j < a + n → cells_from names' (pair_name_at j) (get_or rows (pair_at j) 0) ≡ cells_from names (pair_name_at j) (get_or rows (pair_at j) 0))
      → count_at rows' names' (a + n) ≡ record { name = x; times = 1 }
      → pairs_at rows' names' a (suc n) ≡ count_name x (pairs_at rows names a n)
  unfolding pairs_at find_pair holds_name
  bump-new a zero h f g k e = let z : a + 0 ≡ a = omega arith in ap (λ c. c ∷ []) (rw z at e)
  bump-new a (suc n) h f g k e =
      go (equal_bytes x (pair_name rows names a)) h (λ h'. bump-new (a + 1) n h' (λ j p q. f j (omega arith) (omega arith)) (λ j p q. g j (omega arith) (omega arith)) (λ j p q. k j (omega arith) (omega arith)) (let z : a + suc n ≡ a + 1 + n = omega arith in rw z at e))
      ∙ ap (λ b. cond b (record { name = pair_name rows names a; times = suc (get_or rows (pair_at a + 1) 0) } ∷ pairs_at rows names (a + 1) n) (count_at rows names a ∷ count_name x (pairs_at rows names (a + 1) n))) (same_bytes x (pair_name rows names a))
    where
      go : (b : Bool) → a + suc n ≤ cond b a (find_pair rows names x (a + 1) n)
          → (a + 1 + n ≤ find_pair rows names x (a + 1) n → pairs_at rows' names' (a + 1) (suc n) ≡ count_name x (pairs_at rows names (a + 1) n))
          → count_at rows' names' a ∷ pairs_at rows' names' (a + 1) (suc n) ≡ cond b (record { name = pair_name rows names a; times = suc (get_or rows (pair_at a + 1) 0) } ∷ pairs_at rows names (a + 1) n) (count_at rows names a ∷ count_name x (pairs_at rows names (a + 1) n))
      go true h ih = absurd (let q : ⊥ = omega arith in q)
      go false h ih = rw (f a (omega arith) (omega arith), g a (omega arith) (omega arith), k a (omega arith) (omega arith)) (ap (λ l. count_at rows names a ∷ l) (ih (omega arith)))

-- ---- stores that differ at the open level only
module _ (s s' : Stores) (l : Alike (view s) (view s') (hd s 0) (hd s 1) (hd s 2) (row_word s.rows (hd s 0) 4)) (t : Tidy (view s) (hd s 0) (hd s 1) (hd s 2) (hd s 3)) where
  pub level-stack : (p c : ℕ) (cs : List Counter) → hd s' 0 ≡ hd s 0 → hd s' 1 ≡ hd s 1 → hd s' 2 ≡ hd s 2 → hd s' 3 ≡ p → row_word s'.rows (hd s 0) 1 ≡ c
      → pairs_at s'.rows s'.names (row_word s.rows (hd s 0) 4) (p - row_word s.rows (hd s 0) 4) ≡ cs
      → stack_of s' ≡ record { top = record { children = c; types = cs }; items = (stack_of s).items }
  unfolding level_at
  level-stack p c cs h0 h1 h2 h3 e f =
      (λ i. stack_at (view s') (h0 i) (h1 i) (h2 i) (h3 i))
      ∙ rw (
        e,
        l.pairs_mark (hd s 0) (omega arith),
        f,
        frames-alike (view s) (view s') (hd s 0) (hd s 1) (hd s 2) (row_word s.rows (hd s 0) 4) l (hd s 0) (hd s 1) (hd s 2) (row_word s.rows (hd s 0) 4) (omega arith) (omega arith) (omega arith) (omega arith) (tidy-self (view s) (hd s 0) (hd s 1) (hd s 2) (hd s 3) t),
      )

  pub level-tidy : (p : ℕ) → hd s 3 ≤ p → Tidy (view s') (hd s 0) (hd s 1) (hd s 2) p
  level-tidy p h = tidy-more (view s') (hd s 0) (hd s 1) (hd s 2) (hd s 3) p h (tidy-alike (view s) (view s') (hd s 0) (hd s 1) (hd s 2) (row_word s.rows (hd s 0) 4) l (hd s 0) (hd s 1) (hd s 2) (hd s 3) (omega arith) t)

module _ (s : Stores) (rows' names' : List ℕ) (ho : hd s 0 ≤ open_limit)
    (off : (i : ℕ) → (i ≡ 3 → ⊥) → i < row_at (open_limit + 1) → (i ≡ row_at (hd s 0) + 1 → ⊥) → get_or rows' i 0 ≡ get_or s.rows i 0)
    (nam : (j : ℕ) → j ≤ hd s 0 → (n : ℕ) → n ≤ name_limit → cells_from names' (name_at j) n ≡ cells_from s.names (name_at j) n)
    (prs : (a b : ℕ) → b ≤ row_word s.rows (hd s 0) 4 → a ≤ b → pairs_at rows' names' a (b - a) ≡ pairs_at s.rows s.names a (b - a)) where
  level-alike : Alike (view s) (view (stores rows' names' s.ids s.nodes)) (hd s 0) (hd s 1) (hd s 2) (row_word s.rows (hd s 0) 4)
  level-alike = record {
    name_length = λ j p q. off (row_at j + 0) (λ e. omega arith) (omega arith) (λ e. omega arith);
    parents_mark = λ j q. off (row_at j + 2) (λ e. omega arith) (omega arith) (λ e. omega arith);
    ancestors_mark = λ j q. off (row_at j + 3) (λ e. omega arith) (omega arith) (λ e. omega arith);
    pairs_mark = λ j q. off (row_at j + 4) (λ e. omega arith) (omega arith) (λ e. omega arith);
    children = λ j q. off (row_at j + 1) (λ e. omega arith) (omega arith) (λ e. omega arith);
    name = λ j p q l. rw (off (row_at j + 0) (λ e. omega arith) (omega arith) (λ e. omega arith)) (nam j q (row_word s.rows j 0) l);
    ids = λ j p q. refl;
    parents = λ a b h g. refl;
    ancestors = λ a b h g. refl;
    pairs = prs;
  }

-- What comes out: the level counted, the rest as it was.
pub record Tallied (types : Bool) (s s' : Stores) (cs : List Counter) : Type 0 where
  pub stack : stack_of s' ≡ record { top = record { children = suc (row_word s.rows (hd s 0) 1); types = cs }; items = (stack_of s).items }
  pub good : Good types s'
  pub kt : hd s' 1 ≡ hd s 1
  pub at : hd s' 2 ≡ hd s 2
  pub open' : hd s' 0 ≡ hd s 0
  pub header : (i : ℕ) → 4 ≤ i → i < 16 → hd s' i ≡ hd s i
  pub nodes : s'.nodes ≡ s.nodes

module _ (s : Stores) (few : row_word s.rows (hd s 0) 1 < count_limit) where
  abbrev son : ℕ
  son = row_at (hd s 0) + 1

  -- ---- types are not counted
  module _ (g : Good false s) where
    abbrev s1 : Stores
    s1 = stores (counted_rows false s.rows s.names []) s.names s.ids s.nodes

    son-off : (i : ℕ) → (i ≡ son → ⊥) → get_or s1.rows i 0 ≡ get_or s.rows i 0
    son-off i h = count-off false s.rows s.names [] i h

    son-on : get_or s1.rows son 0 ≡ suc (row_word s.rows (hd s 0) 1)
    unfolding stack.children
    son-on = count-children false s.rows s.names [] (omega (arith, g.rows, g.deep)) ∙ one_more_lem (row_word s.rows (hd s 0) 1) few ∙ add-one (row_word s.rows (hd s 0) 1)

    plain-alike : Alike (view s) (view s1) (hd s 0) (hd s 1) (hd s 2) (row_word s.rows (hd s 0) 4)
    plain-alike = level-alike s s1.rows s.names g.deep (λ i p q r. son-off i r) (λ j q n h. refl)
        (λ a b h l. pairs-same s.rows s1.rows s.names s.names a (b - a) (λ j p q. son-off (pair_at j) (λ e. omega (arith, g.deep))) (λ j p q. son-off (pair_at j + 1) (λ e. omega (arith, g.deep))) (λ j p q. refl))

    plain-tallied : Tallied false s s1 (stack_of s).top.types
    unfolding level_at
    plain-tallied =
        let q = tidy-pm (view s) (hd s 0) (hd s 1) (hd s 2) (hd s 3) g.tidy in
        let h0 = son-off 0 (λ e. omega arith) in
        let h1 = son-off 1 (λ e. omega arith) in
        let h2 = son-off 2 (λ e. omega arith) in
        let h3 = son-off 3 (λ e. omega arith) in
        record {
          stack = level-stack s s1 plain-alike g.tidy (hd s 3) (suc (row_word s.rows (hd s 0) 1)) (stack_of s).top.types h0 h1 h2 h3 son-on
              (pairs-same s.rows s1.rows s.names s.names (row_word s.rows (hd s 0) 4) (hd s 3 - row_word s.rows (hd s 0) 4) (λ j p q. son-off (pair_at j) (λ e. omega (arith, g.deep))) (λ j p q. son-off (pair_at j + 1) (λ e. omega (arith, g.deep))) (λ j p q. refl));
          good = record {
            rows = rw (count-length false s.rows s.names []) g.rows;
            names = g.names;
            ids = g.ids;
            nodes = g.nodes;
            deep = rw h0 g.deep;
            kt = rw h1 g.kt;
            at = rw h2 g.at;
            pt = rw h3 g.pt;
            tidy = rw (h0, h1, h2, h3) (level-tidy s s1 plain-alike g.tidy (hd s 3) (omega arith));
            short = λ i h. rw (son-off (pair_at i) (λ e. omega (arith, g.deep))) (g.short i (rw h3 at h));
            plain = λ e. h3 ∙ g.plain e;
          };
          kt = h1;
          at = h2;
          open' = h0;
          header = λ i h k. son-off i (λ e. omega arith);
          nodes = refl;
        }

  -- ---- a name that the level knows
  module _ (g : Good true s) (x : List ℕ) (old : stack.known s.rows s.names x ≡ true) (rare : times_in s.rows s.names x < count_limit) where
    abbrev i₀ : ℕ
    i₀ = pair_of s.rows s.names x

    abbrev s2 : Stores
    s2 = stores (counted_rows true s.rows s.names x) s.names s.ids s.nodes

    hi : i₀ < hd s 3
    unfolding stack.known
    hi = ltb-true _ _ old

    low : row_word s.rows (hd s 0) 4 ≤ i₀
    unfolding pair_of
    low = find-low s.rows s.names x (row_word s.rows (hd s 0) 4) (hd s 3 - row_word s.rows (hd s 0) 4)

    known-off : (a : ℕ) → (a ≡ pair_at i₀ + 1 → ⊥) → (a ≡ son → ⊥) → get_or s2.rows a 0 ≡ get_or s.rows a 0
    known-off a h k = count-off true s.rows s.names x a k ∙ again-off s.rows s.names x old a h

    times-are : times_in s.rows s.names x ≡ get_or s.rows (pair_at i₀ + 1) 0
    unfolding times_in
    times-are = rw old

    known_on : get_or s2.rows (pair_at i₀ + 1) 0 ≡ suc (get_or s.rows (pair_at i₀ + 1) 0)
    known_on =
        let h = hi in
        count-off true s.rows s.names x (pair_at i₀ + 1) (λ e. omega (arith, g.deep))
        ∙ again-times s.rows s.names x old (omega (arith, g.rows, g.pt))
        ∙ one_more_lem (times_in s.rows s.names x) rare ∙ add-one (times_in s.rows s.names x) ∙ ap suc times-are

    known-son : get_or s2.rows son 0 ≡ suc (row_word s.rows (hd s 0) 1)
    unfolding stack.children
    known-son = count-children true s.rows s.names x (rw (again-length s.rows s.names x old) (omega (arith, g.rows, g.deep))) ∙ one_more_lem (row_word s.rows (hd s 0) 1) few ∙ add-one (row_word s.rows (hd s 0) 1)

    known_alike : Alike (view s) (view s2) (hd s 0) (hd s 1) (hd s 2) (row_word s.rows (hd s 0) 4)
    known_alike =
        let l = low in
        level-alike s s2.rows s.names g.deep (λ i p q r. known-off i (λ e. omega arith) r) (λ j q n h. refl)
        (λ a b h k. pairs-same s.rows s2.rows s.names s.names a (b - a) (λ j p q. known-off (pair_at j) (λ e. omega arith) (λ e. omega (arith, g.deep))) (λ j p q. known-off (pair_at j + 1) (λ e. omega arith) (λ e. omega (arith, g.deep))) (λ j p q. refl))

    known-pairs : pairs_at s2.rows s.names (row_word s.rows (hd s 0) 4) (hd s 3 - row_word s.rows (hd s 0) 4) ≡ count_name x (pairs_at s.rows s.names (row_word s.rows (hd s 0) 4) (hd s 3 - row_word s.rows (hd s 0) 4))
    unfolding pair_of
    known-pairs =
        let h = hi in
        let l = tidy-pm (view s) (hd s 0) (hd s 1) (hd s 2) (hd s 3) g.tidy in
        bump-again s.rows s2.rows s.names x (row_word s.rows (hd s 0) 4) (hd s 3 - row_word s.rows (hd s 0) 4) (omega arith)
        (λ j p q. known-off (pair_at j) (λ e. omega arith) (λ e. omega (arith, g.deep))) (λ j n p q. known-off (pair_at j + 1) (λ e. n (omega arith)) (λ e. omega (arith, g.deep))) known_on

    known-tallied : Tallied true s s2 (count_name x (stack_of s).top.types)
    unfolding level_at
    known-tallied =
        let h0 = known-off 0 (λ e. omega arith) (λ e. omega arith) in
        let h1 = known-off 1 (λ e. omega arith) (λ e. omega arith) in
        let h2 = known-off 2 (λ e. omega arith) (λ e. omega arith) in
        let h3 = known-off 3 (λ e. omega arith) (λ e. omega arith) in
        record {
          stack = level-stack s s2 known_alike g.tidy (hd s 3) (suc (row_word s.rows (hd s 0) 1)) (count_name x (stack_of s).top.types) h0 h1 h2 h3 known-son known-pairs;
          good = record {
            rows = rw (count-length true s.rows s.names x, again-length s.rows s.names x old) g.rows;
            names = g.names;
            ids = g.ids;
            nodes = g.nodes;
            deep = rw h0 g.deep;
            kt = rw h1 g.kt;
            at = rw h2 g.at;
            pt = rw h3 g.pt;
            tidy = rw (h0, h1, h2, h3) (level-tidy s s2 known_alike g.tidy (hd s 3) (omega arith));
            short = λ i h. rw (known-off (pair_at i) (λ e. omega arith) (λ e. omega (arith, g.deep))) (g.short i (rw h3 at h));
            plain = λ e. absurd (false≢true (sym e));
          };
          kt = h1;
          at = h2;
          open' = h0;
          header = λ i h k. known-off i (λ e. omega arith) (λ e. omega arith);
          nodes = refl;
        }

  -- ---- a new name
  module _ (g : Good true s) (x : List ℕ) (hx : length x ≤ name_limit) (new : stack.known s.rows s.names x ≡ false) (hp : hd s 3 < pair_limit) where
    abbrev s3 : Stores
    s3 = stores (counted_rows true s.rows s.names x) (written s.names (pair_name_at (hd s 3)) x) s.ids s.nodes

    room : pair_at (hd s 3) + 2 ≤ length s.rows
    room = omega (arith, g.rows)

    fresh-off : (a : ℕ) → (a ≡ 3 → ⊥) → a < pair_at (hd s 3) → (a ≡ son → ⊥) → get_or s3.rows a 0 ≡ get_or s.rows a 0
    fresh-off a h k n = count-off true s.rows s.names x a n ∙ new-off s.rows s.names x new a h k

    fresh-top : hd s3 3 ≡ hd s 3 + 1
    fresh-top = count-off true s.rows s.names x 3 (λ e. omega arith) ∙ new-top s.rows s.names x new room ∙ one_more_lem (hd s 3) (omega arith)

    fresh-pair : (j : ℕ) → j < 2 → get_or s3.rows (pair_at (hd s 3) + j) 0 ≡ get_or (length x ∷ 1 ∷ []) j 0
    fresh-pair j h = count-off true s.rows s.names x (pair_at (hd s 3) + j) (λ e. omega (arith, g.deep)) ∙ new_pair s.rows s.names x new room j h

    fresh-length : get_or s3.rows (pair_at (hd s 3)) 0 ≡ length x
    fresh-length = let z : pair_at (hd s 3) + 0 ≡ pair_at (hd s 3) = omega arith in rw z at (fresh-pair 0 (omega arith))

    fresh-count : count_at s3.rows s3.names (hd s 3) ≡ record { name = x; times = 1 }
    fresh-count = rw (fresh-length, fresh-pair 1 (omega arith), cells_in s.names (pair_name_at (hd s 3)) x (omega (arith, g.names)))

    fresh-name : (j : ℕ) → j < hd s 3 → cells_from s3.names (pair_name_at j) (get_or s.rows (pair_at j) 0) ≡ cells_from s.names (pair_name_at j) (get_or s.rows (pair_at j) 0)
    fresh-name j h = let l = g.short j h in cells-below s.names (pair_name_at (hd s 3)) x (pair_name_at j) (get_or s.rows (pair_at j) 0) (omega arith)

    fresh-son : get_or s3.rows son 0 ≡ suc (row_word s.rows (hd s 0) 1)
    unfolding stack.children
    fresh-son = count-children true s.rows s.names x (rw (new-length s.rows s.names x new) (omega (arith, g.rows, g.deep))) ∙ one_more_lem (row_word s.rows (hd s 0) 1) few ∙ add-one (row_word s.rows (hd s 0) 1)

    fresh-alike : Alike (view s) (view s3) (hd s 0) (hd s 1) (hd s 2) (row_word s.rows (hd s 0) 4)
    fresh-alike =
        let l = tidy-pm (view s) (hd s 0) (hd s 1) (hd s 2) (hd s 3) g.tidy in
        level-alike s s3.rows s3.names g.deep (λ i p q r. fresh-off i p (omega arith) r)
        (λ j q n h. cells-below s.names (pair_name_at (hd s 3)) x (name_at j) n (omega (arith, g.deep)))
        (λ a b h k. pairs-same s.rows s3.rows s.names s3.names a (b - a) (λ j p q. fresh-off (pair_at j) (λ e. omega arith) (omega arith) (λ e. omega (arith, g.deep))) (λ j p q. fresh-off (pair_at j + 1) (λ e. omega arith) (omega arith) (λ e. omega (arith, g.deep))) (λ j p q. fresh-name j (omega arith)))

    hi' : hd s 3 ≤ pair_of s.rows s.names x
    unfolding stack.known
    hi' = ltb-false _ _ new

    fresh-pairs : pairs_at s3.rows s3.names (row_word s.rows (hd s 0) 4) (hd s 3 + 1 - row_word s.rows (hd s 0) 4) ≡ count_name x (pairs_at s.rows s.names (row_word s.rows (hd s 0) 4) (hd s 3 - row_word s.rows (hd s 0) 4))
    unfolding pair_of
    fresh-pairs =
        let l = tidy-pm (view s) (hd s 0) (hd s 1) (hd s 2) (hd s 3) g.tidy in
        let m = row_word s.rows (hd s 0) 4 in
        let k = hi' in
        let z : hd s 3 + 1 - m ≡ suc (hd s 3 - m) = omega arith in
        let y : m + (hd s 3 - m) ≡ hd s 3 = omega arith in
        rw z (bump-new s.rows s3.rows s.names s3.names x m (hd s 3 - m) (omega arith)
        (λ j p q. fresh-off (pair_at j) (λ e. omega arith) (omega arith) (λ e. omega (arith, g.deep))) (λ j p q. fresh-off (pair_at j + 1) (λ e. omega arith) (omega arith) (λ e. omega (arith, g.deep))) (λ j p q. fresh-name j (omega arith)) (rw y fresh-count))

    fresh-tallied : Tallied true s s3 (count_name x (stack_of s).top.types)
    unfolding level_at
    fresh-tallied =
        let h0 = fresh-off 0 (λ e. omega arith) (omega arith) (λ e. omega arith) in
        let h1 = fresh-off 1 (λ e. omega arith) (omega arith) (λ e. omega arith) in
        let h2 = fresh-off 2 (λ e. omega arith) (omega arith) (λ e. omega arith) in
        record {
          stack = level-stack s s3 fresh-alike g.tidy (hd s 3 + 1) (suc (row_word s.rows (hd s 0) 1)) (count_name x (stack_of s).top.types) h0 h1 h2 fresh-top fresh-son fresh-pairs;
          good = record {
            rows = rw (count-length true s.rows s.names x, new-length s.rows s.names x new) g.rows;
            names = rw (length-written s.names (pair_name_at (hd s 3)) x) g.names;
            ids = g.ids;
            nodes = g.nodes;
            deep = rw h0 g.deep;
            kt = rw h1 g.kt;
            at = rw h2 g.at;
            pt = rw fresh-top (omega arith);
            tidy = rw (h0, h1, h2, fresh-top) (level-tidy s s3 fresh-alike g.tidy (hd s 3 + 1) (omega arith));
            short = λ i h. fits i (rw fresh-top at h) (eqb i (hd s 3)) refl;
            plain = λ e. absurd (false≢true (sym e));
          };
          kt = h1;
          at = h2;
          open' = h0;
          header = λ i h k. fresh-off i (λ e. omega arith) (omega arith) (λ e. omega arith);
          nodes = refl;
        }
      where
        fits : (i : ℕ) → i < hd s 3 + 1 → (b : Bool) → eqb i (hd s 3) ≡ b → get_or s3.rows (pair_at i) 0 ≤ name_limit
        fits i h true e = let q : i ≡ hd s 3 = eqb-true _ _ e in rw (q, fresh-length) hx
        fits i h false e = let n : i ≡ hd s 3 → ⊥ = eqb-false _ _ e in rw (fresh-off (pair_at i) (λ e. omega arith) (omega arith) (λ e. omega (arith, g.deep))) (g.short i (omega arith))

-- COUNTING A TAG is what the machine does.
pub tallied : (types : Bool) (s : Stores) → Good types s → (x : List ℕ) → length x ≤ name_limit → row_word s.rows (hd s 0) 1 < count_limit → times_in s.rows s.names x < count_limit
    → (types ≡ true → stack.known s.rows s.names x ≡ false → hd s 3 < pair_limit) → Tallied types s (counted types s x) (cond types (count_name x (stack_of s).top.types) (stack_of s).top.types)
unfolding counted_names counted_rows
tallied false s g x hx few rare free = plain-tallied s few g
tallied true s g x hx few rare free = go (stack.known s.rows s.names x) refl
  where
    go : (b : Bool) → stack.known s.rows s.names x ≡ b → Tallied true s (counted true s x) (count_name x (stack_of s).top.types)
    go true e = subst (λ l. Tallied true s (stores (counted_rows true s.rows s.names x) l s.ids s.nodes) (count_name x (stack_of s).top.types)) (sym (again-names s.rows s.names x e)) (known-tallied s few g x e rare)
    go false e = subst (λ l. Tallied true s (stores (counted_rows true s.rows s.names x) l s.ids s.nodes) (count_name x (stack_of s).top.types)) (sym (new-names s.rows s.names x e)) (fresh-tallied s few g x hx e (free refl e))
