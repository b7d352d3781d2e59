-- What the scans find: a scan that stops and goes on from its cursor finds what one with the attributes at hand finds.
use Rattle.std.specs.Prelude.{◌≡◌, Bool, ℕ, suc, ◌+◌, ◌-◌, ◌≤◌}
use Rattle.std.proofs.Math.Path.{refl, sym, ap}
use Rattle.std.proofs.Common.{◌∙◌, subst, take_all}
use Rattle.std.proofs.Math.Bool.{true, false, cond}
use mathlib.Core.List.{List, [], ◌∷◌, ◌++◌}
use native.Mathlib.Omega.{arith}
use borrow.Author.Tests.{eqb-true, not-false, le-ltb}
use Rattle.std.proofs.Math.ListN.{length}
use Rattle.rules.specs.Attributes.{Attribute}
use Rattle.cursors.specs.declared.Cursor.{Cursor}
use Rattle.cursors.specs.declared.Ranges.{Ranges}
use Rattle.cursors.specs.Cursors.{rest, ats}
use Rattle.cursors.specs.CursorLaws.{Own}
use Rattle.instructions.specs.Instructions.{attribute_count, attribute_tests_hold, tag_passes, attribute_passes, asks}
use Rattle.exec.specs.Scans.{keep, Sought, over, stopped, with_found, seek, tests_taken, within_tests, live, tag_scan, all_pass, attribute_scan}

-- A cursor stands on each address.
pub length-ats : (cs : List Cursor) → length (ats cs) ≡ length cs
length-ats [] = refl
length-ats (c ∷ cs) = ap suc (length-ats cs)

-- ---- the budget of bytes

-- The bytes of tests that instructions take in all.
unfoldable pub tests_in : (sheet program : List ℕ) → ℕ → List Cursor → ℕ
tests_in sheet program key [] = 0
tests_in sheet program key (c ∷ cs) = tests_taken sheet program key c.at + tests_in sheet program key cs

-- If they are within the budget, it changes nothing.
within_all : (sheet program : List ℕ) (key bytes : ℕ) (cs : List Cursor) → tests_in sheet program key cs ≤ bytes → within_tests sheet program key bytes cs ≡ cs
unfolding tests_in within_tests
within_all sheet program key bytes [] h = refl
within_all sheet program key bytes (c ∷ cs) h = rw (le-ltb bytes (tests_taken sheet program key c.at) (omega arith)) (ap (λ l. c ∷ l) (within_all sheet program key (bytes - tests_taken sheet program key c.at) cs (omega arith)))

pub live_all : (sheet program nodes : List ℕ) (ranges : Ranges) (key : ℕ) (from : Cursor) (budget bytes : ℕ) → length (rest program nodes ranges from) ≤ budget → tests_in sheet program key (rest program nodes ranges from) ≤ bytes
    → live sheet program nodes ranges key from budget bytes ≡ rest program nodes ranges from
unfolding live
live_all sheet program nodes ranges key from budget bytes fits few = rw (take_all budget (rest program nodes ranges from) fits) (within_all sheet program key bytes (rest program nodes ranges from) few)

module _ (program nodes : List ℕ) (ranges : Ranges) where
  -- ---- a scan over cursors is a scan over addresses

  -- `scan` goes over addresses and tells what is left as addresses; `done`, `stuck` and `too` are its answers and one found more.
  module _ {S : Type 0} (done : List ℕ → S) (stuck : List ℕ → List ℕ → S) (too : ℕ → S → S)
      (too-done : (a : ℕ) (found : List ℕ) → too a (done found) ≡ done (a ∷ found))
      (too-stuck : (a : ℕ) (found left : List ℕ) → too a (stuck found left) ≡ stuck (a ∷ found) left) where
    abbrev pub forget : Sought → S
    forget (over found) = done found
    forget (stopped found c) = stuck found (ats (rest program nodes ranges c))

    forget-too : (a : ℕ) (s : Sought) → forget (with_found a s) ≡ too a (forget s)
    unfolding with_found
    forget-too a (over found) = sym (too-done a found)
    forget-too a (stopped found c) = sym (too-stuck a found (ats (rest program nodes ranges c)))

    pub seek-scan : (passes asking : ℕ → Bool) (scan : List ℕ → S) → scan [] ≡ done []
        → ((a : ℕ) (as' : List ℕ) → scan (a ∷ as') ≡ cond (passes a) (cond (asking a) (stuck [] (a ∷ as')) (too a (scan as'))) (scan as'))
        → (cs : List Cursor) → Own program nodes ranges cs → forget (seek passes asking cs) ≡ scan (ats cs)
    unfolding seek
    seek-scan passes asking scan none more [] o = sym none
    seek-scan passes asking scan none more (c ∷ cs) (e, o) = go (passes c.at) (asking c.at) (seek-scan passes asking scan none more cs o) ∙ sym (more c.at (ats cs))
      where
        go : (a b : Bool) → forget (seek passes asking cs) ≡ scan (ats cs)
            → forget (cond a (cond b (stopped [] c) (with_found c.at (seek passes asking cs))) (seek passes asking cs)) ≡ cond a (cond b (stuck [] (c.at ∷ ats cs)) (too c.at (scan (ats cs)))) (scan (ats cs))
        go false b ih = ih
        go true true ih = ap (λ l. stuck [] (ats l)) e
        go true false ih = forget-too c.at (seek passes asking cs) ∙ ap (too c.at) ih

  -- ---- stopped and gone on is all at once

  module _ (sheet : List ℕ) (key : ℕ) (passes asking all : ℕ → Bool) (less : (a : ℕ) → passes a ≡ false → all a ≡ false) (same : (a : ℕ) → passes a ≡ true → asking a ≡ false → all a ≡ true) where
    abbrev Whole : List Cursor → Sought → Type 0
    Whole cs (over found) = keep all (ats cs) ≡ found
    Whole cs (stopped found c) =
        (keep all (ats cs) ≡ found ++ keep all (ats (rest program nodes ranges c)))
        × ((length found + length (rest program nodes ranges c) ≤ length cs) × (tests_in sheet program key (rest program nodes ranges c) ≤ tests_in sheet program key cs))

    skips : (c : Cursor) (cs : List Cursor) (s : Sought) → all c.at ≡ false → Whole cs s → Whole (c ∷ cs) s
    unfolding keep tests_in
    skips c cs (over found) e w = rw e w
    skips c cs (stopped found d) e w = let z = w.1.0 in let y = w.1.1 in (rw e w.0, (omega arith, omega arith))

    takes : (c : Cursor) (cs : List Cursor) (s : Sought) → all c.at ≡ true → Whole cs s → Whole (c ∷ cs) (with_found c.at s)
    unfolding keep with_found tests_in
    takes c cs (over found) e w = rw e (ap (λ l. c.at ∷ l) w)
    takes c cs (stopped found d) e w = let z = w.1.0 in let y = w.1.1 in (rw e (ap (λ l. c.at ∷ l) w.0), (omega arith, omega arith))

    whole : (cs : List Cursor) → Own program nodes ranges cs → Whole cs (seek passes asking cs)
    unfolding seek keep
    whole [] o = refl
    whole (c ∷ cs) (e, o) = go (passes c.at) refl (asking c.at) refl (whole cs o)
      where
        go : (a : Bool) → passes c.at ≡ a → (b : Bool) → asking c.at ≡ b → Whole cs (seek passes asking cs) → Whole (c ∷ cs) (cond a (cond b (stopped [] c) (with_found c.at (seek passes asking cs))) (seek passes asking cs))
        go false p b q w = skips c cs (seek passes asking cs) (less c.at p) w
        go true p true q w = let n = ap length e in let m = ap (tests_in sheet program key) e in (ap (λ l. keep all (ats l)) (sym e), (omega arith, omega arith))
        go true p false q w = takes c cs (seek passes asking cs) (same c.at p q) w

module _ (sheet program nodes : List ℕ) (ranges : Ranges) (name : List ℕ) (key child of_type : ℕ) (html : Bool) (attributes : List Attribute) where
  less-all : (a : ℕ) → tag_passes sheet program name key child of_type a ≡ false → all_pass sheet program name key child of_type html attributes a ≡ false
  unfolding all_pass
  less-all a e = rw e

  same-all : (a : ℕ) → tag_passes sheet program name key child of_type a ≡ true → asks program a ≡ false → all_pass sheet program name key child of_type html attributes a ≡ true
  unfolding all_pass attribute_passes attribute_tests_hold asks
  same-all a e f = let z : attribute_count program a ≡ 0 = eqb-true _ _ (not-false _ f) in rw (e, z)

  abbrev passes_tag : ℕ → Bool
  passes_tag = tag_passes sheet program name key child of_type

  abbrev passes_all : ℕ → Bool
  passes_all = all_pass sheet program name key child of_type html attributes

  abbrev tag_scanned : Cursor → ℕ → ℕ → Sought
  tag_scanned = tag_scan sheet program nodes ranges name key child of_type

  abbrev all_scanned : Cursor → ℕ → ℕ → List ℕ
  all_scanned = attribute_scan sheet program nodes ranges name key child of_type html attributes

  module _ (from : Cursor) (budget bytes : ℕ) (fits : length (rest program nodes ranges from) ≤ budget) (few : tests_in sheet program key (rest program nodes ranges from) ≤ bytes) where
    -- If the live instructions fit the budgets, these change nothing.
    pub tag-scan-all : tag_scanned from budget bytes ≡ seek passes_tag (asks program) (rest program nodes ranges from)
    unfolding tag_scan
    tag-scan-all = rw (live_all sheet program nodes ranges key from budget bytes fits few)

    pub attribute-scan-all : all_scanned from budget bytes ≡ keep passes_all (ats (rest program nodes ranges from))
    unfolding attribute_scan
    attribute-scan-all = rw (live_all sheet program nodes ranges key from budget bytes fits few)

    module _ (own : Own program nodes ranges (rest program nodes ranges from)) where
      abbrev Found : Sought → Type 0
      Found = Whole program nodes ranges sheet key passes_tag (asks program) passes_all less-all same-all (rest program nodes ranges from)

      found-so : (s : Sought) → tag_scanned from budget bytes ≡ s → Found s
      found-so s e = subst Found (sym tag-scan-all ∙ e) (whole program nodes ranges sheet key passes_tag (asks program) passes_all less-all same-all (rest program nodes ranges from) own)

      -- A scan by the tag that comes to its end has found what matches with any attributes.
      pub ended : (found : List ℕ) → tag_scanned from budget bytes ≡ over found → all_scanned from budget bytes ≡ found
      ended found e = attribute-scan-all ∙ found-so (over found) e

      -- One that stops, resumed at its cursor, finds the rest; the instructions that are left of the budget and the bytes of a new call are enough for it.
      pub resumed : (found : List ℕ) (c : Cursor) → tag_scanned from budget bytes ≡ stopped found c
          → (length (rest program nodes ranges c) ≤ budget - length found)
          × ((tests_in sheet program key (rest program nodes ranges c) ≤ bytes)
          × (all_scanned from budget bytes ≡ found ++ all_scanned c (budget - length found) bytes))
      unfolding attribute_scan
      resumed found c e =
          let w = found-so (stopped found c) e in
          let k = w.1.0 in
          let m = w.1.1 in
          let n : length (rest program nodes ranges c) ≤ budget - length found = omega arith in
          let l : tests_in sheet program key (rest program nodes ranges c) ≤ bytes = omega arith in
          (n, (l, attribute-scan-all ∙ w.0 ∙ rw (live_all sheet program nodes ranges key c (budget - length found) bytes n l)))
