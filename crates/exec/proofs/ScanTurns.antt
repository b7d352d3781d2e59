-- Turns of the scan, and what it comes to for a tag alone and with attributes.
use mathlib.Core.Path.{◌≡◌, refl, sym, ◌∙◌, ap, subst}
use mathlib.Core.Bool.{Bool, true, false, cond, ◌&&◌}
use mathlib.Core.List.{List, [], ◌∷◌}
use Prim.Native.Nat.{ℕ, ◌+◌, ◌<◌, ◌^◌}
use native.Mathlib.Nat.{add-zero}
use native.Mathlib.Omega.{arith}
use lib.ListN.{length, set}
use Rattle.cells.specs.Stretches.{written}
use Rattle.rules.specs.Attributes.{Attribute}
use Rattle.cursors.specs.declared.Cursor.{Cursor}
use Rattle.cursors.specs.declared.Ranges.{Ranges}
use Rattle.std.specs.Prelude.{Option, Some, None}
use Rattle.cursors.specs.Cursors.{after_cursor, ats}
use Rattle.instructions.specs.Instructions.{key_fits, tag_tests_pass, tag_passes, attribute_passes, asks}
use Rattle.exec.specs.Scans.{keep, Sought, over, stopped, with_found, seek, found_in, answer_from, live, all_pass}
use Rattle.candidates.specs.Candidates.{from_keyed}
use Rattle.exec.specs.Searching.{Within, Judges, verdict_of}
use Rattle.exec.specs.declared.scan.Scanned.{Scanned}
use Rattle.exec.specs.declared.scan.Verdict.{Verdict}
use Rattle.exec.specs.declared.scan.Verdict.TheVariants.{Fails, Matches, Asks}

-- ---- instructions whose key does not fit change nothing

module _ (program : List ℕ) (key : ℕ) (passes : ℕ → Bool) (no : (a : ℕ) → key_fits program key a ≡ false → passes a ≡ false) where
  seek-keyed : (asking : ℕ → Bool) (cs : List Cursor) → seek passes asking cs ≡ seek passes asking (from_keyed program key cs)
  unfolding seek from_keyed
  seek-keyed asking [] = refl
  seek-keyed asking (c ∷ cs) = go (key_fits program key c.at) refl (seek-keyed asking cs)
    where
      go : (b : Bool) → key_fits program key c.at ≡ b → seek passes asking cs ≡ seek passes asking (from_keyed program key cs) → seek passes asking (c ∷ cs) ≡ seek passes asking (cond b (c ∷ cs) (from_keyed program key cs))
      go true e ih = refl
      go false e ih = rw (no c.at e) ih

-- ---- the next live instruction

module _ (sheet program nodes : List ℕ) (ranges : Ranges) (key : ℕ) (c : Cursor) (left bytes : ℕ) where
  -- what an answer of the search says
  pub record At (d : Cursor) (more rest : ℕ) : Type 0 where
    pub list : from_keyed program key (live sheet program nodes ranges key c left bytes) ≡ d ∷ live sheet program nodes ranges key (after_cursor d) more rest
    pub fits : key_fits program key d.at ≡ true
    pub below : d.at < 2 ^ 16
    pub less : more < left

  pub reached-at : (r : Option (Cursor × ℕ × ℕ)) (d : Cursor) (more rest : ℕ) → Within sheet program nodes ranges key c left bytes r → r ≡ Some (d, more, rest) → At d more rest
  unfolding Within
  reached-at r d more rest h e =
      let g : Within sheet program nodes ranges key c left bytes (Some (d, more, rest)) = subst (Within sheet program nodes ranges key c left bytes) e h in
      record { list = g.0; fits = g.1.0; below = g.1.1.0; less = g.1.1.1 }

  pub reached-over : (r : Option (Cursor × ℕ × ℕ)) → Within sheet program nodes ranges key c left bytes r → r ≡ None → from_keyed program key (live sheet program nodes ranges key c left bytes) ≡ []
  unfolding Within
  reached-over r h e = subst (Within sheet program nodes ranges key c left bytes) e h

-- ---- the scan

failing : (p q : Bool) → Fails ≡ verdict_of p q → p ≡ false
unfolding verdict_of
failing false q e = refl
failing true true e = cc
failing true false e = cc

asking-for : (p q : Bool) → Asks ≡ verdict_of p q → (p ≡ true) × (q ≡ true)
unfolding verdict_of
asking-for false q e = (cc, cc)
asking-for true true e = (refl, refl)
asking-for true false e = (refl, cc)

matching : (p q : Bool) → Matches ≡ verdict_of p q → (p ≡ true) × (q ≡ false)
unfolding verdict_of
matching false q e = (cc, cc)
matching true true e = (refl, cc)
matching true false e = (refl, refl)

module _ (sheet program nodes : List ℕ) (ranges : Ranges) (key : ℕ) (passes asking : ℕ → Bool) (call : ℕ → Verdict → Type 0) (judges : Judges program key passes asking call) (c : Cursor) (left bytes : ℕ) where
  abbrev scanned : Cursor → ℕ → ℕ → Sought
  scanned x n m = seek passes asking (live sheet program nodes ranges key x n m)

  keyed-scan : (cs : List Cursor) → from_keyed program key (live sheet program nodes ranges key c left bytes) ≡ cs → scanned c left bytes ≡ seek passes asking cs
  unfolding Judges
  keyed-scan cs e = seek-keyed program key passes judges.0 asking (live sheet program nodes ranges key c left bytes) ∙ ap (seek passes asking) e

  pub scan-over : from_keyed program key (live sheet program nodes ranges key c left bytes) ≡ [] → scanned c left bytes ≡ over []
  unfolding seek
  scan-over e = keyed-scan [] e

  module _ (d : Cursor) (more rest : ℕ) (at : At sheet program nodes ranges key c left bytes d more rest) (v : Verdict) (called : call d.at v) (next : Cursor) (stepped : next ≡ after_cursor d) where
    judged : v ≡ verdict_of (passes d.at) (asking d.at)
    unfolding Judges
    judged = judges.1 d.at v at.below at.fits called

    pub scan-fails : v ≡ Fails → scanned c left bytes ≡ scanned next more rest
    unfolding seek
    scan-fails e = let p = failing (passes d.at) (asking d.at) (sym e ∙ judged) in rw stepped (keyed-scan _ at.list ∙ rw p)

    pub scan-stops : v ≡ Asks → scanned c left bytes ≡ stopped [] d
    unfolding seek
    scan-stops e = let p = asking-for (passes d.at) (asking d.at) (sym e ∙ judged) in keyed-scan _ at.list ∙ rw (p.0, p.1)

    pub scan-finds : v ≡ Matches → scanned c left bytes ≡ with_found d.at (scanned next more rest)
    unfolding seek
    scan-finds e = let p = matching (passes d.at) (asking d.at) (sym e ∙ judged) in rw stepped (keyed-scan _ at.list ∙ rw (p.0, p.1))

answer-too : (count a : ℕ) (t : Sought) → answer_from count (with_found a t) ≡ answer_from (count + 1) t
unfolding answer_from with_found
answer-too count a (over found) = let e : count + length (a ∷ found) ≡ count + 1 + length found = omega arith in ap (λ (n : ℕ). record { count = n; stopped_at = None }) e
answer-too count a (stopped found c) = let e : count + length (a ∷ found) ≡ count + 1 + length found = omega arith in ap (λ (n : ℕ). record { count = n; stopped_at = Some c }) e

written-too : (found : List ℕ) (count a : ℕ) (t : Sought) → written found count (found_in (with_found a t)) ≡ written (set found count a) (count + 1) (found_in t)
unfolding written found_in with_found
written-too found count a (over ms) = refl
written-too found count a (stopped ms c) = refl

-- what is found so far, and what is to come, is the whole
abbrev pub Going : ℕ → List ℕ → Sought → List ℕ → ℕ → Sought → Type 0
Going count₀ found₀ whole found count s = (answer_from count₀ whole ≡ answer_from count s) × (written found₀ count₀ (found_in whole) ≡ written found count (found_in s))

module _ (count₀ : ℕ) (found₀ : List ℕ) (whole : Sought) (found : List ℕ) (count : ℕ) (s : Sought) (g : Going count₀ found₀ whole found count s) where
  pub goes_on : (t : Sought) → s ≡ t → Going count₀ found₀ whole found count t
  goes_on t e = subst (Going count₀ found₀ whole found count) e g

  pub goes-found : (a : ℕ) (t : Sought) (last : List ℕ) → s ≡ with_found a t → last ≡ set found count a → Going count₀ found₀ whole last (count + 1) t
  goes-found a t last e f = (g.0 ∙ ap (answer_from count) e ∙ answer-too count a t, g.1 ∙ ap (λ x. written found count (found_in x)) e ∙ written-too found count a t ∙ (λ i. written (sym f i) (count + 1) (found_in t)))

  pub goes-out : s ≡ over [] → (record { count = count; stopped_at = None } ≡ answer_from count₀ whole) × (found ≡ written found₀ count₀ (found_in whole))
  unfolding written found_in answer_from
  goes-out e = (sym (g.0 ∙ ap (answer_from count) e ∙ ap (λ (n : ℕ). record { count = n; stopped_at = None }) (add-zero count)), sym (g.1 ∙ ap (λ x. written found count (found_in x)) e))

  pub goes-stuck : (d : Cursor) → s ≡ stopped [] d → (record { count = count; stopped_at = Some d } ≡ answer_from count₀ whole) × (found ≡ written found₀ count₀ (found_in whole))
  unfolding written found_in answer_from
  goes-stuck d e = (sym (g.0 ∙ ap (answer_from count) e ∙ ap (λ (n : ℕ). record { count = n; stopped_at = Some d }) (add-zero count)), sym (g.1 ∙ ap (λ x. written found count (found_in x)) e))

-- ---- the two scans

module _ (sheet program name : List ℕ) (key child of_type : ℕ) where
  pub no_key : (a : ℕ) → key_fits program key a ≡ false → tag_passes sheet program name key child of_type a ≡ false
  unfolding tag_passes
  no_key a e = rw e

  pub keyed : (a : ℕ) (v : Verdict) → key_fits program key a ≡ true → v ≡ verdict_of (tag_tests_pass sheet program name child of_type a) (asks program a) → v ≡ verdict_of (tag_passes sheet program name key child of_type a) (asks program a)
  unfolding tag_passes
  keyed a v e f = rw e f

  module _ (html : Bool) (attributes : List Attribute) where
    pub no-key-all : (a : ℕ) → key_fits program key a ≡ false → all_pass sheet program name key child of_type html attributes a ≡ false
    unfolding all_pass tag_passes
    no-key-all a e = rw e

    pub keyed-all : (a : ℕ) (v : Verdict) → key_fits program key a ≡ true → v ≡ verdict_of (tag_tests_pass sheet program name child of_type a && attribute_passes sheet program html attributes a) false
        → v ≡ verdict_of (all_pass sheet program name key child of_type html attributes a) false
    unfolding all_pass tag_passes
    keyed-all a v e f = rw e f

-- a scan for which no instruction asks finds all that pass
pub seek-all : (passes : ℕ → Bool) (cs : List Cursor) → seek passes (λ a. false) cs ≡ over (keep passes (ats cs))
unfolding seek keep with_found
seek-all passes [] = refl
seek-all passes (c ∷ cs) = go (passes c.at) (seek-all passes cs)
  where
    go : (b : Bool) → seek passes (λ a. false) cs ≡ over (keep passes (ats cs)) → cond b (with_found c.at (seek passes (λ a. false) cs)) (seek passes (λ a. false) cs) ≡ over (cond b (c.at ∷ keep passes (ats cs)) (keep passes (ats cs)))
    go true ih = rw ih
    go false ih = ih

pub all-found : (count : ℕ) (found last : List ℕ) (r : Scanned) (s : Sought) (all : List ℕ) → (r ≡ answer_from count s) × (last ≡ written found count (found_in s)) → s ≡ over all → (r.count ≡ count + length all) × (last ≡ written found count all)
unfolding answer_from found_in
all-found count found last r s all (p, q) e = (ap (λ (x : Scanned). x.count) (p ∙ ap (answer_from count) e), q ∙ ap (λ x. written found count (found_in x)) e)
