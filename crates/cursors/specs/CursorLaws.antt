-- What the cursor goes through: the addresses of the first cursor, and each cursor of the list by itself.
use Rattle.std.specs.Prelude.{◌≡◌, Bool, cond, get_or}
use Rattle.std.proofs.Math.Path.{refl, ap₂}
use Rattle.std.proofs.Common.{◌∙◌, ap, le-leb, leb-true}
use Rattle.std.proofs.Math.Bool.{true, false}
use mathlib.Core.List.{List, [], ◌∷◌, ◌++◌, flat_map, append_assoc}
use Prim.Native.Nat.{ℕ, zero, suc, ◌+◌, ◌-◌, ◌*◌, ◌≤◌}
use native.Mathlib.Omega.{arith}
use Rattle.std.proofs.Math.Dec.{leb}
use Rattle.cells.specs.Stretches.{cells_or, cells_from}
use Rattle.cursors.specs.declared.Cursor.{Cursor}
use Rattle.cursors.specs.declared.Ranges.{Ranges}
use Rattle.instructions.specs.Instructions.{row_word}
use Rattle.cursors.specs.Cursors.{first_cursor, range_at, left_in, ride, in_range, rides, later, rest, ats, span, hangs}

-- ---- addresses

ats-cat : (xs ys : List Cursor) → ats (xs ++ ys) ≡ ats xs ++ ats ys
ats-cat [] ys = refl
ats-cat (x ∷ xs) ys = ap (λ l. x.at ∷ l) (ats-cat xs ys)

ats-ride : (stage slot stop a n : ℕ) → ats (ride stage slot stop a n) ≡ span a n
unfolding ride span
ats-ride stage slot stop a zero = refl
ats-ride stage slot stop a (suc n) = ap (λ l. a ∷ l) (ats-ride stage slot stop (a + 1) n)

ats-rides : (program nodes : List ℕ) (limit w stage slot n : ℕ) → ats (rides program nodes limit w stage slot n) ≡ flat_map (hangs program limit w) (cells_from nodes slot n)
unfolding rides cells_or flat_map hangs range_at
ats-rides program nodes limit w stage slot zero = refl
ats-rides program nodes limit w stage slot (suc n) =
    ats-cat (in_range limit (range_at program nodes w stage slot)) (rides program nodes limit w stage (slot + 1) n)
    ∙ ap₂ (λ (x y : List ℕ). x ++ y) (ats-ride stage (slot + 1) _ _ _) (ats-rides program nodes limit w stage (slot + 1) n)

-- A range that ends within the limit is followed whole.
pub hangs-whole : (program : List ℕ) (limit w node : ℕ) → row_word program node w + get_or program (node * 8 + w + 1) 0 ≤ limit
    → hangs program limit w node ≡ span (row_word program node w) (get_or program (node * 8 + w + 1) 0)
unfolding hangs left_in
hangs-whole program limit w node h =
    let z : row_word program node w + get_or program (node * 8 + w + 1) 0 - row_word program node w ≡ get_or program (node * 8 + w + 1) 0 = omega arith in
    rw (le-leb _ _ h, z)

module _ (program nodes : List ℕ) (ranges : Ranges) where
  -- The addresses from the first cursor on: roots, child ranges of the parents, descendant ranges of the ancestors.
  pub ats-first : (slot roots : ℕ) → roots ≤ ranges.limit
      → ats (rest program nodes ranges (first_cursor slot roots)) ≡ span 0 roots
      ++ (flat_map (hangs program ranges.limit 3) (cells_from nodes slot (ranges.parents_top - slot))
      ++ flat_map (hangs program ranges.limit 5) (cells_from nodes ranges.ancestors_from (ranges.ancestors_top - ranges.ancestors_from)))
  unfolding rest later first_cursor left_in
  ats-first slot roots h =
      let z : roots - 0 ≡ roots = omega arith in
      rw (le-leb _ _ h, z)
      (ats-cat (ride 0 slot roots 0 roots) (rides program nodes ranges.limit 3 0 slot (ranges.parents_top - slot) ++ rides program nodes ranges.limit 5 1 ranges.ancestors_from (ranges.ancestors_top - ranges.ancestors_from))
      ∙ ap₂ (λ (x y : List ℕ). x ++ y) (ats-ride 0 slot roots 0 roots)
      (ats-cat (rides program nodes ranges.limit 3 0 slot (ranges.parents_top - slot)) (rides program nodes ranges.limit 5 1 ranges.ancestors_from (ranges.ancestors_top - ranges.ancestors_from))
      ∙ ap₂ (λ (x y : List ℕ). x ++ y) (ats-rides program nodes ranges.limit 3 0 slot (ranges.parents_top - slot)) (ats-rides program nodes ranges.limit 5 1 ranges.ancestors_from (ranges.ancestors_top - ranges.ancestors_from))))

  -- ---- each cursor of a list tells by itself what is left

  -- What is left at each cursor of the list is the list from it on: four numbers are the place to resume.
  abbrev pub Own : List Cursor → Type 0
  Own [] = Unit
  Own (c ∷ cs) = (rest program nodes ranges c ≡ c ∷ cs) × Own cs

  own-ride : (stage slot a stop n : ℕ) → stop ≡ a + n → stop ≤ ranges.limit → Own (later program nodes ranges stage slot) → Own (ride stage slot stop a n ++ later program nodes ranges stage slot)
  unfolding ride rest left_in
  own-ride stage slot a stop zero h k o = o
  own-ride stage slot a stop (suc n) h k o =
      let q : stop - a ≡ suc n = omega arith in
      (rw (le-leb _ _ k, q), own-ride stage slot (a + 1) stop n (omega arith) k o)

  own_range : (stage slot a count : ℕ) → Own (later program nodes ranges stage slot) → Own (ride stage slot (a + count) a (left_in ranges.limit a (a + count)) ++ later program nodes ranges stage slot)
  unfolding left_in ride
  own_range stage slot a count o = go (leb (a + count) ranges.limit) refl
    where
      go : (b : Bool) → leb (a + count) ranges.limit ≡ b → Own (ride stage slot (a + count) a (cond b (a + count - a) 0) ++ later program nodes ranges stage slot)
      go true e = let z : a + count - a ≡ count = omega arith in rw z (own-ride stage slot a (a + count) count refl (leb-true _ _ e) o)
      go false e = o

  own-one : (slot n : ℕ) → ranges.ancestors_top ≡ slot + n → Own (rides program nodes ranges.limit 5 1 slot n)
  unfolding rides later range_at
  own-one slot zero h = tt
  own-one slot (suc n) h =
      let q : ranges.ancestors_top - (slot + 1) ≡ n = omega arith in
      let o : Own (later program nodes ranges 1 (slot + 1)) = rw q (own-one (slot + 1) n (omega arith)) in
      rw q at (own_range 1 (slot + 1) (row_word program (get_or nodes slot 0) 5) (get_or program (get_or nodes slot 0 * 8 + 5 + 1) 0) o)

  own-zero : ranges.ancestors_from ≤ ranges.ancestors_top → (slot n : ℕ) → ranges.parents_top ≡ slot + n
      → Own (rides program nodes ranges.limit 3 0 slot n ++ rides program nodes ranges.limit 5 1 ranges.ancestors_from (ranges.ancestors_top - ranges.ancestors_from))
  unfolding rides later range_at
  own-zero le slot zero h = own-one ranges.ancestors_from (ranges.ancestors_top - ranges.ancestors_from) (omega arith)
  own-zero le slot (suc n) h =
      let q : ranges.parents_top - (slot + 1) ≡ n = omega arith in
      let o : Own (later program nodes ranges 0 (slot + 1)) = rw q (own-zero le (slot + 1) n (omega arith)) in
      rw append_assoc (rw q at (own_range 0 (slot + 1) (row_word program (get_or nodes slot 0) 3) (get_or program (get_or nodes slot 0 * 8 + 3 + 1) 0) o))

  -- Each cursor from the first one on tells by itself what is left.
  pub own_first : (slot roots : ℕ) → slot ≤ ranges.parents_top → ranges.ancestors_from ≤ ranges.ancestors_top → Own (rest program nodes ranges (first_cursor slot roots))
  unfolding rest later first_cursor
  own_first slot roots h le =
      let z : 0 + roots ≡ roots = omega arith in
      rw z at (own_range 0 slot 0 roots (own-zero le slot (ranges.parents_top - slot) (omega arith)))
