-- The budget of bytes: what the search for the next instruction leaves of it.
use mathlib.Core.Path.{◌≡◌, refl, ◌∙◌, ap, subst}
use mathlib.Core.Bool.{Bool, true, false, cond}
use mathlib.Core.List.{List, [], ◌∷◌}
use Prim.Native.Nat.{ℕ, ◌+◌, ◌-◌, ◌<◌, ◌≤◌, ◌^◌}
use native.Mathlib.Omega.{arith}
use native.Mathlib.Nat.{sub-zero}
use borrow.Author.Tests.{lt-ltb, le-ltb}
use lib.Dec.{ltb}
use lib.ListN.{length, take}
use Rattle.cursors.specs.declared.Cursor.{Cursor}
use Rattle.cursors.specs.declared.Ranges.{Ranges}
use Rattle.std.specs.Prelude.{Option, Some, None}
use Rattle.instructions.specs.Instructions.{row_word, key_fits, tests_end, tag_count, attribute_count}
use Rattle.cursors.specs.Cursors.{after_cursor, rest}
use Rattle.exec.specs.Scans.{tests_taken, within_tests, live}
use Rattle.candidates.specs.Candidates.{from_keyed, Reached}
use Rattle.exec.specs.Searching.{Within}

module _ (sheet program : List ℕ) (key : ℕ) where
  abbrev tests_of : ℕ → ℕ
  tests_of a = tests_end sheet (tag_count program a + attribute_count program a) (row_word program a 1) - row_word program a 1

  found_none : from_keyed program key [] ≡ []
  unfolding from_keyed
  found_none = refl

  found_first : (d : Cursor) (ds : List Cursor) → key_fits program key d.at ≡ true → from_keyed program key (d ∷ ds) ≡ d ∷ ds
  unfolding from_keyed
  found_first d ds t = rw t

  -- An instruction whose key does not fit takes no test.
  skips-tests : (bytes : ℕ) (c : Cursor) (cs : List Cursor) → key_fits program key c.at ≡ false → from_keyed program key (within_tests sheet program key bytes (c ∷ cs)) ≡ from_keyed program key (within_tests sheet program key bytes cs)
  unfolding within_tests tests_taken from_keyed
  skips-tests bytes c cs e = rw (e, le-ltb bytes 0 (zero-least bytes), sub-zero bytes, e)
    where
      zero-least : (n : ℕ) → 0 ≤ n
      zero-least n = omega arith

  -- What the search finds among the cursors, with the budget of bytes laid on them.
  pub none_within : (bytes : ℕ) (cs : List Cursor) → from_keyed program key cs ≡ [] → from_keyed program key (within_tests sheet program key bytes cs) ≡ []
  unfolding from_keyed within_tests
  none_within bytes [] e = refl
  none_within bytes (c ∷ cs) e = go (key_fits program key c.at) refl e (none_within bytes cs)
    where
      go : (b : Bool) → key_fits program key c.at ≡ b → cond b (c ∷ cs) (from_keyed program key cs) ≡ [] → (from_keyed program key cs ≡ [] → from_keyed program key (within_tests sheet program key bytes cs) ≡ [])
          → from_keyed program key (within_tests sheet program key bytes (c ∷ cs)) ≡ []
      go true f h ih = let z = ap length h in absurd (omega arith)
      go false f h ih = skips-tests bytes c cs f ∙ ih h

  here-within : (bytes : ℕ) (d : Cursor) (ds : List Cursor) → key_fits program key d.at ≡ true
      → from_keyed program key (within_tests sheet program key bytes (d ∷ ds)) ≡ cond (ltb bytes (tests_of d.at)) [] (d ∷ within_tests sheet program key (bytes - tests_of d.at) ds)
  unfolding within_tests tests_taken
  here-within bytes d ds t = rw t (go (ltb bytes (tests_of d.at)))
    where
      ds' : List Cursor
      ds' = within_tests sheet program key (bytes - tests_of d.at) ds

      go : (b : Bool) → from_keyed program key (cond b [] (d ∷ ds')) ≡ cond b [] (d ∷ ds')
      go true = found_none
      go false = found_first d ds' t

  pub first-within : (bytes : ℕ) (cs : List Cursor) (d : Cursor) (ds : List Cursor) → from_keyed program key cs ≡ d ∷ ds → key_fits program key d.at ≡ true
      → from_keyed program key (within_tests sheet program key bytes cs) ≡ cond (ltb bytes (tests_of d.at)) [] (d ∷ within_tests sheet program key (bytes - tests_of d.at) ds)
  unfolding from_keyed
  first-within bytes [] d ds e t = let z = ap length e in absurd (omega arith)
  first-within bytes (c ∷ cs) d ds e t = go (key_fits program key c.at) refl e (λ h. first-within bytes cs d ds h t)
    where
      same : c ≡ d → cs ≡ ds → from_keyed program key (within_tests sheet program key bytes (c ∷ cs)) ≡ cond (ltb bytes (tests_of d.at)) [] (d ∷ within_tests sheet program key (bytes - tests_of d.at) ds)
      same p q = ap (λ l. from_keyed program key (within_tests sheet program key bytes l)) (λ i. p i ∷ q i) ∙ here-within bytes d ds t

      go : (b : Bool) → key_fits program key c.at ≡ b → cond b (c ∷ cs) (from_keyed program key cs) ≡ d ∷ ds
          → (from_keyed program key cs ≡ d ∷ ds → from_keyed program key (within_tests sheet program key bytes cs) ≡ cond (ltb bytes (tests_of d.at)) [] (d ∷ within_tests sheet program key (bytes - tests_of d.at) ds))
          → from_keyed program key (within_tests sheet program key bytes (c ∷ cs)) ≡ cond (ltb bytes (tests_of d.at)) [] (d ∷ within_tests sheet program key (bytes - tests_of d.at) ds)
      go true f h ih = let p : c ≡ d = cc in let q : cs ≡ ds = cc in same p q
      go false f h ih = skips-tests bytes c cs f ∙ ih h

-- ---- the answer of the search

module _ (program nodes : List ℕ) (ranges : Ranges) (key : ℕ) (from : Cursor) (budget : ℕ) (r : Option (Cursor × ℕ)) (reached : Reached program nodes ranges key from budget r) where
  pub over-within : (sheet : List ℕ) (bytes : ℕ) → r ≡ None → Within sheet program nodes ranges key from budget bytes None
  unfolding Reached Within live
  over-within sheet bytes e = none_within sheet program key bytes (take budget (rest program nodes ranges from)) (subst (Reached program nodes ranges key from budget) e reached)

  module _ (d : Cursor) (left : ℕ) (e : r ≡ Some (d, left)) where
    at : Reached program nodes ranges key from budget (Some (d, left))
    at = subst (Reached program nodes ranges key from budget) e reached

    pub at-below : d.at < 2 ^ 16
    unfolding Reached
    at-below = at.1.1.0

    module _ (sheet : List ℕ) (bytes taken : ℕ) (asked : taken ≡ tests_end sheet (tag_count program d.at + attribute_count program d.at) (row_word program d.at 1) - row_word program d.at 1) where
      found : from_keyed program key (live sheet program nodes ranges key from budget bytes) ≡ cond (ltb bytes taken) [] (d ∷ live sheet program nodes ranges key (after_cursor d) left (bytes - taken))
      unfolding Reached live
      found = rw asked (first-within sheet program key bytes (take budget (rest program nodes ranges from)) d (take left (rest program nodes ranges (after_cursor d))) at.0 at.1.0)

      pub past-within : bytes < taken → Within sheet program nodes ranges key from budget bytes None
      unfolding Within
      past-within h = found ∙ rw (lt-ltb bytes taken h)

      pub at-within : taken ≤ bytes → Within sheet program nodes ranges key from budget bytes (Some (d, left, bytes - taken))
      unfolding Within Reached
      at-within h = (found ∙ rw (le-ltb bytes taken h), at.1)
