-- What the stores stand for: a machine of `meaning`; and what that depends on.
use Rattle.std.specs.Prelude.{◌≡◌, cond, List, [], ◌∷◌, get_or, eqb}
use Rattle.std.proofs.Math.Path.{refl}
use Rattle.std.proofs.Common.{◌∙◌}
use Prim.Native.Nat.{ℕ, zero, suc, ◌+◌, ◌-◌, ◌*◌, ◌/◌, ◌%◌, ◌<◌, ◌≤◌}
use native.Mathlib.Omega.{arith}
use Rattle.cells.specs.Stretches.{cells_from}
use Rattle.stack.specs.Stores.{Stores, parent_limit, name_limit, name_size, id_words, pair_at, pair_name_at, row_word, held_kind, held_name, held_found}
use Rattle.cursors.specs.declared.Cursor.{Cursor}
use Rattle.cursors.specs.Cursors.{rest, ats}
use Rattle.course.specs.Course.{live_ranges, held_cursor}
use Rattle.meaning.specs.Elements.{Tag}
use Rattle.meaning.specs.Machine.{Counter, Level, Item, Stack, Machine, pops}
use Rattle.demand.specs.Rows.{Compiled, rows_program}

-- what is read off the stores: of row k; the nodes from top a to top b; the pairs from top a to top b
pub record View : Type 0 where
  pub name_length : ℕ → ℕ
  pub children : ℕ → ℕ
  pub parents_mark : ℕ → ℕ
  pub ancestors_mark : ℕ → ℕ
  pub pairs_mark : ℕ → ℕ
  pub name : ℕ → List ℕ
  pub ids : ℕ → List ℕ
  pub parents : ℕ → ℕ → List ℕ
  pub ancestors : ℕ → ℕ → List ℕ
  pub pairs : ℕ → ℕ → List Counter

-- A word of the header.
abbrev pub hd : Stores → ℕ → ℕ
hd s i = get_or s.rows i 0

-- The name and the times of pair i.
abbrev pub pair_name : List ℕ → List ℕ → ℕ → List ℕ
pair_name rows names i = cells_from names (pair_name_at i) (get_or rows (pair_at i) 0)

abbrev pub count_at : List ℕ → List ℕ → ℕ → Counter
count_at rows names i = record { name = pair_name rows names i; times = get_or rows (pair_at i + 1) 0 }

-- n pairs from i on
unfoldable pub pairs_at : List ℕ → List ℕ → ℕ → ℕ → List Counter
pairs_at rows names i zero = []
pairs_at rows names i (suc n) = count_at rows names i ∷ pairs_at rows names (i + 1) n

abbrev pub view : Stores → View
view s = record {
  name_length = λ k. row_word s.rows k 0;
  children = λ k. row_word s.rows k 1;
  parents_mark = λ k. row_word s.rows k 2;
  ancestors_mark = λ k. row_word s.rows k 3;
  pairs_mark = λ k. row_word s.rows k 4;
  name = λ k. cells_from s.names (k * name_size) (row_word s.rows k 0);
  ids = λ k. cells_from s.ids (k * id_words) (id_words);
  parents = λ a b. cells_from s.nodes a (b - a);
  ancestors = λ a b. cells_from s.nodes (parent_limit + a) (b - a);
  pairs = λ a b. pairs_at s.rows s.names a (b - a);
}

unfoldable pub level_at : View → ℕ → ℕ → Level
level_at v k pt = record { children = v.children k; types = v.pairs (v.pairs_mark k) pt }

abbrev pub item_at : View → ℕ → ℕ → ℕ → Item (List ℕ)
item_at v k kt at = record { name = v.name (suc k); ids = v.ids (suc k); parents = v.parents (v.parents_mark (suc k)) kt; ancestors = v.ancestors (v.ancestors_mark (suc k)) at; outer = level_at v k (v.pairs_mark (suc k)) }

-- k open elements, whose nodes end at these tops
unfoldable pub items_at : View → ℕ → ℕ → ℕ → List (Item (List ℕ))
items_at v zero kt at = []
items_at v (suc k) kt at = item_at v k kt at ∷ items_at v k (v.parents_mark (suc k)) (v.ancestors_mark (suc k))

abbrev pub stack_at : View → ℕ → ℕ → ℕ → ℕ → Stack (List ℕ)
stack_at v d kt at pt = record { top = level_at v d pt; items = items_at v d kt at }

abbrev pub stack_of : Stores → Stack (List ℕ)
stack_of s = stack_at (view s) (hd s 0) (hd s 1) (hd s 2) (hd s 3)

-- The name and the kind of the waiting tag.
abbrev pub held_tag : Stores → Tag
held_tag s = record { name = held_name s.rows s.names; namespace = held_kind s.rows % 4; void = eqb (held_kind s.rows / 4 % 2) 1 }

-- What is left at a cursor.
abbrev pub rest_of : (sheet program : List ℕ) → Stores → Cursor → List Cursor
rest_of sheet program s c = rest program s.nodes (live_ranges sheet s.rows) c

-- THE MACHINE THAT THE STORES STAND FOR.
unfoldable pub decode : (sheet program : List ℕ) → Stores → Machine (List ℕ)
decode sheet program s = cond (eqb (hd s 4) 0) (Machine.ready (stack_of s)) (Machine.waits (stack_of s) (held_tag s) (held_found s.rows s.nodes) (ats (rest_of sheet program s (held_cursor s.rows))))

-- the tops fall from row to row
abbrev pub Tidy : View → ℕ → ℕ → ℕ → ℕ → Type 0
Tidy v zero kt at pt = (kt ≡ 0) × (at ≡ 0) × (v.parents_mark 0 ≡ 0) × (v.pairs_mark 0 ≡ 0)
Tidy v (suc k) kt at pt = (v.parents_mark (suc k) ≤ kt) × (v.ancestors_mark (suc k) ≤ at) × (v.pairs_mark (suc k) ≤ pt) × (v.name_length (suc k) ≤ name_limit) × Tidy v k (v.parents_mark (suc k)) (v.ancestors_mark (suc k)) (v.pairs_mark (suc k))

pub tidy-km : (v : View) (d kt at pt : ℕ) → Tidy v d kt at pt → v.parents_mark d ≤ kt
tidy-km v zero kt at pt (a, b, c, e) = omega arith
tidy-km v (suc k) kt at pt t = t.0

pub tidy-pm : (v : View) (d kt at pt : ℕ) → Tidy v d kt at pt → v.pairs_mark d ≤ pt
tidy-pm v zero kt at pt (a, b, c, e) = omega arith
tidy-pm v (suc k) kt at pt t = t.2

-- a higher top of pairs is as good
pub tidy-more : (v : View) (d kt at pt pt' : ℕ) → pt ≤ pt' → Tidy v d kt at pt → Tidy v d kt at pt'
tidy-more v zero kt at pt pt' h t = t
tidy-more v (suc k) kt at pt pt' h (a, b, c, e, f) = (a, b, omega arith, e, f)

-- it holds by its own marks
pub tidy-self : (v : View) (d kt at pt : ℕ) → Tidy v d kt at pt → Tidy v d kt at (v.pairs_mark d)
tidy-self v zero kt at pt t = t
tidy-self v (suc k) kt at pt (a, b, c, e, f) = (a, b, omega arith, e, f)

-- two views that agree on the rows up to d, the nodes up to these tops, the pairs up to p
pub record Alike (v w : View) (d kt at p : ℕ) : Type 0 where
  pub name_length : (j : ℕ) → 0 < j → j ≤ d → w.name_length j ≡ v.name_length j
  pub parents_mark : (j : ℕ) → j ≤ d → w.parents_mark j ≡ v.parents_mark j
  pub ancestors_mark : (j : ℕ) → j ≤ d → w.ancestors_mark j ≡ v.ancestors_mark j
  pub pairs_mark : (j : ℕ) → j ≤ d → w.pairs_mark j ≡ v.pairs_mark j
  pub children : (j : ℕ) → j < d → w.children j ≡ v.children j
  pub name : (j : ℕ) → 0 < j → j ≤ d → v.name_length j ≤ name_limit → w.name j ≡ v.name j
  pub ids : (j : ℕ) → 0 < j → j ≤ d → w.ids j ≡ v.ids j
  pub parents : (a b : ℕ) → b ≤ kt → a ≤ b → w.parents a b ≡ v.parents a b
  pub ancestors : (a b : ℕ) → b ≤ at → a ≤ b → w.ancestors a b ≡ v.ancestors a b
  pub pairs : (a b : ℕ) → b ≤ p → a ≤ b → w.pairs a b ≡ v.pairs a b

module _ (v w : View) (d kt at p : ℕ) (l : Alike v w d kt at p) where
  pub frames-alike : (k x y z : ℕ) → k ≤ d → x ≤ kt → y ≤ at → z ≤ p → Tidy v k x y z → items_at w k x y ≡ items_at v k x y
  unfolding items_at level_at
  frames-alike zero x y z hk hx hy hz t = refl
  frames-alike (suc k) x y z hk hx hy hz (a, b, c, e, f) =
      let g : 0 < suc k = omega arith in
      let q = tidy-pm v k (v.parents_mark (suc k)) (v.ancestors_mark (suc k)) (v.pairs_mark (suc k)) f in
      rw (
        l.name (suc k) g hk e,
        l.ids (suc k) g hk,
        l.parents_mark (suc k) hk,
        l.ancestors_mark (suc k) hk,
        l.pairs_mark (suc k) hk,
        l.pairs_mark k (omega arith),
        l.children k (omega arith),
        l.parents (v.parents_mark (suc k)) x hx a,
        l.ancestors (v.ancestors_mark (suc k)) y hy b,
        l.pairs (v.pairs_mark k) (v.pairs_mark (suc k)) (omega arith) q,
        frames-alike k (v.parents_mark (suc k)) (v.ancestors_mark (suc k)) (v.pairs_mark (suc k)) (omega arith) (omega arith) (omega arith) (omega arith) f,
      )

  pub tidy-alike : (k x y z : ℕ) → k ≤ d → Tidy v k x y z → Tidy w k x y z
  tidy-alike zero x y z hk (a, b, c, e) = (a, b, l.parents_mark 0 hk ∙ c, l.pairs_mark 0 hk ∙ e)
  tidy-alike (suc k) x y z hk (a, b, c, e, f) =
      rw (l.parents_mark (suc k) hk, l.ancestors_mark (suc k) hk, l.pairs_mark (suc k) hk, l.name_length (suc k) (omega arith) hk)
      (a, b, c, e, tidy-alike k (v.parents_mark (suc k)) (v.ancestors_mark (suc k)) (v.pairs_mark (suc k)) (omega arith) f)

pub tidy-back : (v : View) (n q kt at pt : ℕ) → Tidy v (suc (n + q)) kt at pt → Tidy v q (v.parents_mark (suc q)) (v.ancestors_mark (suc q)) (v.pairs_mark (suc q))
tidy-back v zero q kt at pt t = let e : 0 + q ≡ q = omega arith in (rw e at t).4
tidy-back v (suc n) q kt at pt t =
    let e : suc n + q ≡ suc (n + q) = omega arith in
    let (a, b, c, g, f) = rw e at t in
    tidy-back v n q (v.parents_mark (suc (suc (n + q)))) (v.ancestors_mark (suc (suc (n + q)))) (v.pairs_mark (suc (suc (n + q)))) f

pub tidy-under : (v : View) (n q kt at pt : ℕ) → Tidy v (suc (n + q)) kt at pt → (v.parents_mark (suc q) ≤ kt) × (v.ancestors_mark (suc q) ≤ at) × (v.pairs_mark (suc q) ≤ pt)
tidy-under v zero q kt at pt t = let e : 0 + q ≡ q = omega arith in let (a, b, c, g, f) = rw e at t in (a, b, c)
tidy-under v (suc n) q kt at pt t =
    let e : suc n + q ≡ suc (n + q) = omega arith in
    let (a, b, c, g, f) = rw e at t in
    let (x, y, z) = tidy-under v n q (v.parents_mark (suc (suc (n + q)))) (v.ancestors_mark (suc (suc (n + q)))) (v.pairs_mark (suc (suc (n + q)))) f in
    (omega arith, omega arith, omega arith)

-- dropping n elements, one at least, restores what the row above the last that stays had stored
pub pops-back : (C : Compiled) (v : View) (n q kt at pt : ℕ) → pops (rows_program C) (suc n) (stack_at v (suc (n + q)) kt at pt) ≡ stack_at v q (v.parents_mark (suc q)) (v.ancestors_mark (suc q)) (v.pairs_mark (suc q))
unfolding items_at
pops-back C v zero q kt at pt = let e : 0 + q ≡ q = omega arith in rw e
pops-back C v (suc n) q kt at pt =
    let e : suc n + q ≡ suc (n + q) = omega arith in
    rw e (pops-back C v n q (v.parents_mark (suc (suc (n + q)))) (v.ancestors_mark (suc (suc (n + q)))) (v.pairs_mark (suc (suc (n + q)))))
