-- One law for each turn and each way out of the loops.
use mathlib.Core.Path.{◌≡◌, refl, sym, subst, ◌∙◌, ap}
use mathlib.Core.Bool.{Bool, true, false}
use mathlib.Core.List.{List}
use Prim.Native.Nat.{ℕ, zero, suc, ◌+◌, ◌-◌, ◌<◌, ◌≤◌}
use native.Mathlib.Omega.{arith}
use native.Mathlib.Numerals.{add-one}
use borrow.Author.Tests.{eq-eqb, ne_eqb, lt-ltb, le-ltb}
use lib.Dec.{ltb}
use lib.ListN.{length, get_or, drop, drop_of_length-le}
use Rattle.std.proofs.Common.{Option, Some, None, cond, unwrap_or}
use Rattle.std.proofs.lemmas.Bool.{ltb-false}
use lib.Seq.{drop-cons}
use Rattle.cells.specs.Stretches.{cells_or, cells_from, length-cells}
use Rattle.letters.specs.BytesLaws.{equal-ne}
use Rattle.stack.specs.Stores.{holds_name, find_pair, pair_of, known, pair_name_at, pair_at, row_word, opens, pairs_top}

-- ---- comparing a name
pub name-long : (names : List ℕ) (at n : ℕ) (x : List ℕ) → (n ≡ length x → ⊥) → false ≡ holds_name names at n x
unfolding holds_name
name-long names at n x h = sym (equal-ne x (cells_from names at n) (λ e. h (sym (ap length e ∙ length-cells names at n))))

pub name-start : (names : List ℕ) (at n : ℕ) (x : List ℕ) → n ≡ length x → holds_name names at n x ≡ holds_name names (at + 0) (length x - 0) (drop 0 x)
name-start names at n x e =
    let f : at + 0 ≡ at = omega arith in
    let g : length x - 0 ≡ length x = omega arith in
    rw (f, g, e)

module _ (names : List ℕ) (at n : ℕ) (x : List ℕ) (i : ℕ) (inv : holds_name names at n x ≡ holds_name names (at + i) (length x - i) (drop i x)) (h : i < length x) (b : ℕ)
    (eb : b ≡ get_or names (at + i) 0) where
  pub name-differs : (get_or x i 0 ≡ b → ⊥) → false ≡ holds_name names at n x
  unfolding holds_name cells_or
  name-differs d =
      let e : length x - i ≡ suc (length x - (i + 1)) = omega arith in
      sym (inv ∙ rw (e, drop-cons x i 0 h, ne_eqb (get_or x i 0) (get_or names (at + i) 0) (λ q. d (q ∙ sym eb))))

  pub name-again : get_or x i 0 ≡ b → holds_name names at n x ≡ holds_name names (at + (i + 1)) (length x - (i + 1)) (drop (i + 1) x)
  unfolding holds_name cells_or
  name-again d =
      let e : length x - i ≡ suc (length x - (i + 1)) = omega arith in
      let f : at + (i + 1) ≡ at + i + 1 = omega arith in
      inv ∙ rw (e, drop-cons x i 0 h, eq-eqb (get_or x i 0) (get_or names (at + i) 0) (d ∙ eb), f, add-one i)

pub name-over : (names : List ℕ) (at n : ℕ) (x : List ℕ) (i : ℕ) → holds_name names at n x ≡ holds_name names (at + i) (length x - i) (drop i x) → length x ≤ i → true ≡ holds_name names at n x
unfolding holds_name cells_or
name-over names at n x i inv h = let e : length x - i ≡ 0 = omega arith in sym (inv ∙ rw (e, drop_of_length-le x h))

-- ---- looking for a pair
abbrev pub found : ℕ → ℕ → Option ℕ
found i top = cond (ltb i top) (Some i) None

pub pair-start : (rows names x : List ℕ) (k top i : ℕ) → k ≡ opens rows → top ≡ pairs_top rows → i ≡ row_word rows k 4
    → cond (known rows names x) (Some (pair_of rows names x)) None ≡ found (find_pair rows names x i (top - i)) top
unfolding pair_of known
pair-start rows names x k top i ek et ei = rw (ei, et, ek)

module _ (rows names x : List ℕ) (i top : ℕ) (h : i < top) (n : ℕ) (b : Bool) (en : n ≡ get_or rows (pair_at i) 0)
    (eb : b ≡ holds_name names (pair_name_at i) n x) where
  next : find_pair rows names x i (top - i) ≡ cond b i (find_pair rows names x (i + 1) (top - (i + 1)))
  unfolding find_pair
  next = let e : top - i ≡ suc (top - (i + 1)) = omega arith in rw (e, eb, en)

  pub pair-here : b ≡ true → found (find_pair rows names x i (top - i)) top ≡ Some i
  pair-here t = rw (next, t, lt-ltb i top h)

  pub pair-later : b ≡ false → find_pair rows names x i (top - i) ≡ find_pair rows names x (i + 1) (top - (i + 1))
  pair-later t = rw (next, t)

pub pair-none : (rows names x : List ℕ) (i top : ℕ) → top ≤ i → None ≡ found (find_pair rows names x i (top - i)) top
unfolding find_pair
pair-none rows names x i top h = let e : top - i ≡ 0 = omega arith in rw (e, le-ltb i top h)

-- Where the search of n pairs from pair i on ends: no sooner than it began, and at most n pairs on.
abbrev Ends : (found i n : ℕ) → Type 0
Ends found i n = (i ≤ found) × (found ≤ i + n)

here-or-behind : (b : Bool) (found i n : ℕ) → Ends found (i + 1) n → Ends (cond b i found) i (suc n)
here-or-behind true found i n later = (omega arith, omega arith)
here-or-behind false found i n later = (omega (arith, later.0), omega (arith, later.1))

find-ends : (rows names x : List ℕ) (i n : ℕ) → Ends (find_pair rows names x i n) i n
unfolding find_pair
find-ends rows names x i zero = (omega arith, omega arith)
find-ends rows names x i (suc n) = here-or-behind (holds_name names (pair_name_at i) (get_or rows (pair_at i) 0) x) (find_pair rows names x (i + 1) n) i n (find-ends rows names x (i + 1) n)

else-behind : (found mark top : ℕ) (b : Bool) → ltb found top ≡ b → Ends found mark (top - mark) → found ≡ unwrap_or (cond b (Some found) None) (mark + (top - mark))
else-behind found mark top true k e = refl
else-behind found mark top false k e = let g : top ≤ found = ltb-false found top k in omega (arith, g, e.0, e.1)

-- What is known of a pair says where its search ended, also where there is none.
pub pair-place : (rows names x : List ℕ) (r : Option ℕ) → r ≡ cond (known rows names x) (Some (pair_of rows names x)) None
    → pair_of rows names x ≡ unwrap_or r (row_word rows (opens rows) 4 + (pairs_top rows - row_word rows (opens rows) 4))
unfolding pair_of known
pair-place rows names x r e =
    let mark : ℕ = row_word rows (opens rows) 4 in
    subst (λ (q : Option ℕ). pair_of rows names x ≡ unwrap_or q (mark + (pairs_top rows - mark))) (sym e)
    (else-behind (pair_of rows names x) mark (pairs_top rows) (known rows names x) refl (find-ends rows names x mark (pairs_top rows - mark)))
