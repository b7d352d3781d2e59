-- A jump leads to what is left after the range; and the turns of the loop that looks for the next instruction whose key fits.
use mathlib.Core.Path.{◌≡◌, refl, sym, ◌∙◌, ap, subst}
use mathlib.Core.Bool.{Bool, true, false, cond}
use mathlib.Core.List.{List, [], ◌∷◌, ◌++◌, append_assoc}
use Prim.Native.Nat.{ℕ, zero, suc, ◌+◌, ◌-◌, ◌*◌, ◌<◌, ◌≤◌, ◌^◌, min}
use native.Mathlib.Omega.{arith}
use Rattle.std.proofs.Common.{◌⊎◌, inl, inr}
use native.Mathlib.Nat.{sub-zero}
use borrow.Author.Tests.{lt-ltb, le-ltb, le-leb, lt-leb, leb-true, eq-eqb, ne_eqb, ltb-true, ltb-false, eqb-true, eqb-false}
use lib.Dec.{eqb, ltb, leb}
use lib.ListN.{get_or, take}
use lib.Seq.{take-nil}
use Rattle.cursors.specs.declared.Cursor.{Cursor}
use Rattle.cursors.specs.declared.Ranges.{Ranges}
use Rattle.std.specs.Prelude.{Option, Some, None}
use Rattle.cursors.specs.Cursors.{cursor_of, after_cursor, range_at, jump_of, left_in, ride, rides, later, rest}
use Rattle.instructions.specs.Instructions.{key_fits}
use Rattle.candidates.specs.Candidates.{jumps, first_keyed, affordable, from_keyed, Reached}

module _ (program nodes : List ℕ) (ranges : Ranges) where
  later-hop-0 : (stage slot : ℕ) → stage ≡ 0 → slot < ranges.parents_top → later program nodes ranges stage slot ≡ rest program nodes ranges (range_at program nodes 3 0 slot)
  unfolding later rides rest range_at
  later-hop-0 stage slot e h =
      let q : ranges.parents_top - slot ≡ suc (ranges.parents_top - (slot + 1)) = omega arith in
      rw (eq-eqb _ _ e, q, append_assoc)

  later-turn : (stage slot : ℕ) → stage ≡ 0 → ranges.parents_top ≤ slot → later program nodes ranges stage slot ≡ rest program nodes ranges (cursor_of 1 ranges.ancestors_from 0 0)
  unfolding later rides rest left_in ride
  later-turn stage slot e h =
      let q : ranges.parents_top - slot ≡ 0 = omega arith in
      let z : leb 0 ranges.limit ≡ true = le-leb 0 ranges.limit (omega arith) in
      rw (eq-eqb _ _ e, q, z)

  later-hop-1 : (stage slot : ℕ) → (stage ≡ 0 → ⊥) → slot < ranges.ancestors_top → later program nodes ranges stage slot ≡ rest program nodes ranges (range_at program nodes 5 1 slot)
  unfolding later rides rest range_at
  later-hop-1 stage slot ne h =
      let q : ranges.ancestors_top - slot ≡ suc (ranges.ancestors_top - (slot + 1)) = omega arith in
      rw (ne_eqb _ _ ne, q)

  later-end : (stage slot : ℕ) → (stage ≡ 0 → ⊥) → ranges.ancestors_top ≤ slot → later program nodes ranges stage slot ≡ []
  unfolding later rides
  later-end stage slot ne h =
      let q : ranges.ancestors_top - slot ≡ 0 = omega arith in
      rw (ne_eqb _ _ ne, q)

-- what an answer of the three tests says of them
module _ (x y z d : Cursor) where
  three : Bool → Bool → Bool → Option Cursor
  three b1 b2 b3 = cond b1 (cond b2 (Some x) (Some y)) (cond b3 (Some z) None)

  to_inv : (P : Cursor → Type 0) (b1 b2 b3 : Bool) → three b1 b2 b3 ≡ Some d → (b1 ≡ true → b2 ≡ true → P x) → (b1 ≡ true → b2 ≡ false → P y) → (b1 ≡ false → b3 ≡ true → P z) → P d
  unfolding three
  to_inv P true true b3 e p q r = let n : x ≡ d = cc in subst P n (p refl refl)
  to_inv P true false b3 e p q r = let n : y ≡ d = cc in subst P n (q refl refl)
  to_inv P false b2 true e p q r = let n : z ≡ d = cc in subst P n (r refl refl)
  to_inv P false b2 false e p q r = let n : z ≡ d = cc in let m : false ≡ true = cc in subst P n (r refl m)

  done-inv : (b1 b2 b3 : Bool) → three b1 b2 b3 ≡ None → (b1 ≡ false) × (b3 ≡ false)
  unfolding three
  done-inv true true b3 e = (cc, cc)
  done-inv true false b3 e = (cc, cc)
  done-inv false b2 true e = (cc, cc)
  done-inv false b2 false e = (refl, refl)

pub record Jumped (program nodes : List ℕ) (ranges : Ranges) (c d : Cursor) : Type 0 where
  pub list : later program nodes ranges c.stage c.slot ≡ rest program nodes ranges d
  pub less : jumps ranges d < jumps ranges c

module _ (program nodes : List ℕ) (ranges : Ranges) (c d : Cursor) where
  pub jumped : jump_of program nodes ranges c ≡ Some d → Jumped program nodes ranges c d
  unfolding jump_of three jumps range_at
  jumped e =
      to_inv (range_at program nodes 3 0 c.slot) (cursor_of 1 ranges.ancestors_from 0 0) (range_at program nodes 5 1 c.slot) d (λ k. Jumped program nodes ranges c k)
      (eqb c.stage 0) (ltb c.slot ranges.parents_top) (ltb c.slot ranges.ancestors_top) e
      (λ p q. let r : c.slot < ranges.parents_top = ltb-true _ _ q in record { list = later-hop-0 program nodes ranges c.stage c.slot (eqb-true _ _ p) r; less = rw p (omega arith) })
      (λ p q. let r : ranges.parents_top ≤ c.slot = ltb-false _ _ q in record { list = later-turn program nodes ranges c.stage c.slot (eqb-true _ _ p) r; less = rw p (omega arith) })
      (λ p q. let r : c.slot < ranges.ancestors_top = ltb-true _ _ q in record { list = later-hop-1 program nodes ranges c.stage c.slot (eqb-false _ _ p) r; less = rw p (omega arith) })

  pub jumped-out : jump_of program nodes ranges c ≡ None → later program nodes ranges c.stage c.slot ≡ []
  unfolding jump_of three
  jumped-out e =
      let r = done-inv (range_at program nodes 3 0 c.slot) (cursor_of 1 ranges.ancestors_from 0 0) (range_at program nodes 5 1 c.slot) d
      (eqb c.stage 0) (ltb c.slot ranges.parents_top) (ltb c.slot ranges.ancestors_top) e in
      later-end program nodes ranges c.stage c.slot (eqb-false _ _ r.0) (ltb-false _ _ r.1)

-- ---- a budget for a range

module _ (limit at stop budget : ℕ) where
  pub none_past : limit < stop → 0 ≡ affordable limit at stop budget
  unfolding affordable left_in
  none_past h = let z : ltb budget 0 ≡ false = le-ltb budget 0 (omega arith) in rw (lt-leb _ _ h, z)

  pub capped : stop ≤ limit → min (stop - at) budget ≡ affordable limit at stop budget
  unfolding affordable left_in
  capped h = rw (le-leb _ _ h) (go (ltb budget (stop - at)) refl)
    where
      go : (b : Bool) → ltb budget (stop - at) ≡ b → min (stop - at) budget ≡ cond b budget (stop - at)
      go true e = let z = ltb-true budget (stop - at) e in omega (arith, z)
      go false e = let z = ltb-false budget (stop - at) e in omega (arith, z)

  -- what it is
  record Afforded (n : ℕ) : Type 0 where
    pub inside : n ≤ left_in limit at stop
    pub within : n ≤ budget
    pub spent : n < left_in limit at stop → budget ≤ n

  afforded : Afforded (affordable limit at stop budget)
  unfolding affordable
  afforded = go (ltb budget (left_in limit at stop)) refl
    where
      go : (b : Bool) → ltb budget (left_in limit at stop) ≡ b → Afforded (cond b budget (left_in limit at stop))
      go true e = let h = ltb-true budget (left_in limit at stop) e in record { inside = omega arith; within = omega arith; spent = λ g. omega arith }
      go false e = let h = ltb-false budget (left_in limit at stop) e in record { inside = omega arith; within = omega arith; spent = λ g. absurd (let q : ⊥ = omega arith in q) }

module _ (limit at stop : ℕ) where
  followed : 0 < left_in limit at stop → (stop ≤ limit) × (left_in limit at stop ≡ stop - at)
  unfolding left_in
  followed = go (leb stop limit) refl
    where
      go : (b : Bool) → leb stop limit ≡ b → 0 < cond b (stop - at) 0 → (stop ≤ limit) × (cond b (stop - at) 0 ≡ stop - at)
      go true e h = (leb-true _ _ e, refl)
      go false e h = absurd (let q : ⊥ = omega arith in q)

  followed-all : stop ≤ limit → left_in limit at stop ≡ stop - at
  unfolding left_in
  followed-all h = rw (le-leb _ _ h)

-- ---- the first whose key fits

module _ (program : List ℕ) (key a w : ℕ) (row : w ≡ get_or program (a * 8 + 7) 0) where
  pub fits : (w ≡ 0) ⊎ ((w ≡ 0 → ⊥) × (w ≡ key)) → key_fits program key a ≡ true
  unfolding key_fits
  fits (inl e) = rw (eq-eqb _ _ (sym row ∙ e))
  fits (inr (n, e)) = rw (ne_eqb _ _ (λ z. n (row ∙ z)), eq-eqb _ _ (sym row ∙ e))

  pub fits_not : (w ≡ 0 → ⊥) → (w ≡ key → ⊥) → key_fits program key a ≡ false
  unfolding key_fits
  fits_not n m = rw (ne_eqb _ _ (λ z. n (row ∙ z)), ne_eqb _ _ (λ z. m (row ∙ z)))

module _ (program : List ℕ) (key a n : ℕ) where
  pub first-none : n ≡ 0 → first_keyed program key a n ≡ a
  unfolding first_keyed
  first-none e = rw e

  pub first-here : key_fits program key a ≡ true → 0 < n → first_keyed program key a n ≡ a
  unfolding first_keyed
  first-here e h = let q : n ≡ suc (n - 1) = omega arith in rw (q, e)

  pub first-later : (m : ℕ) → key_fits program key a ≡ false → n ≡ suc m → first_keyed program key a n ≡ first_keyed program key (a + 1) m
  unfolding first_keyed
  first-later m e q = rw (q, e)

module _ (program : List ℕ) (key stage slot stop : ℕ) (more : List Cursor) where
  -- it is found in the range
  in-range : (m a n b q l k : ℕ) → q ≡ first_keyed program key a m → q < a + m → m ≤ n → m ≤ b → q + l + 1 ≡ a + b → q + k + 1 ≡ a + n
      → (from_keyed program key (take b (ride stage slot stop a n ++ more)) ≡ cursor_of stage slot q stop ∷ take l (ride stage slot stop (q + 1) k ++ more)) × (key_fits program key q ≡ true)
  unfolding first_keyed from_keyed ride
  in-range zero a n b q l k e h f g x y = absurd (let z : ⊥ = omega arith in z)
  in-range (suc m) a zero b q l k e h f g x y = absurd (let z : ⊥ = omega arith in z)
  in-range (suc m) a (suc n) zero q l k e h f g x y = absurd (let z : ⊥ = omega arith in z)
  in-range (suc m) a (suc n) (suc b) q l k e h f g x y =
      go (key_fits program key a) refl e (λ e'. in-range m (a + 1) n b q l k e' (omega arith) (omega arith) (omega arith) (omega arith) (omega arith))
    where
      go : (t : Bool) → key_fits program key a ≡ t → q ≡ cond t a (first_keyed program key (a + 1) m)
          → (q ≡ first_keyed program key (a + 1) m → (from_keyed program key (take b (ride stage slot stop (a + 1) n ++ more)) ≡ cursor_of stage slot q stop ∷ take l (ride stage slot stop (q + 1) k ++ more)) × (key_fits program key q ≡ true))
          → (cond t (cursor_of stage slot a stop ∷ take b (ride stage slot stop (a + 1) n ++ more)) (from_keyed program key (take b (ride stage slot stop (a + 1) n ++ more))) ≡ cursor_of stage slot q stop ∷ take l (ride stage slot stop (q + 1) k ++ more)) × (key_fits program key q ≡ true)
      go true t e' ih = let lb : l ≡ b = omega arith in let kn : k ≡ n = omega arith in (rw (e', lb, kn), rw e' t)
      go false t e' ih = ih e'

  -- it is not
  past-range : (m a n b : ℕ) → a + m ≤ first_keyed program key a m → m ≤ n → m ≤ b → (m < n → b ≤ m) → from_keyed program key (take b (ride stage slot stop a n ++ more)) ≡ from_keyed program key (take (b - m) more)
  unfolding first_keyed from_keyed ride
  past-range zero a zero b h f g s = rw (sub-zero b)
  past-range zero a (suc n) zero h f g s = refl
  past-range zero a (suc n) (suc b) h f g s = let z = s (omega arith) in absurd (let y : ⊥ = omega arith in y)
  past-range (suc m) a zero b h f g s = absurd (let z : ⊥ = omega arith in z)
  past-range (suc m) a (suc n) zero h f g s = absurd (let z : ⊥ = omega arith in z)
  past-range (suc m) a (suc n) (suc b) h f g s =
      let d : suc b - suc m ≡ b - m = omega arith in
      rw d (go (key_fits program key a) refl h (λ i. past-range m (a + 1) n b i (omega arith) (omega arith) (λ j. let z = s (omega arith) in omega arith)))
    where
      go : (t : Bool) → key_fits program key a ≡ t → a + suc m ≤ cond t a (first_keyed program key (a + 1) m)
          → (a + 1 + m ≤ first_keyed program key (a + 1) m → from_keyed program key (take b (ride stage slot stop (a + 1) n ++ more)) ≡ from_keyed program key (take (b - m) more))
          → cond t (cursor_of stage slot a stop ∷ take b (ride stage slot stop (a + 1) n ++ more)) (from_keyed program key (take b (ride stage slot stop (a + 1) n ++ more))) ≡ from_keyed program key (take (b - m) more)
      go true t i ih = absurd (let z : ⊥ = omega arith in z)
      go false t i ih = ih (omega arith)

-- ---- turns of the loop

module _ (program nodes : List ℕ) (ranges : Ranges) (key : ℕ) (from : Cursor) (budget : ℕ) (c : Cursor) (left : ℕ) where
  abbrev pub SameLeft : Type 0
  SameLeft = from_keyed program key (take budget (rest program nodes ranges from)) ≡ from_keyed program key (take left (rest program nodes ranges c))

  pub nothing_left : SameLeft → left ≤ 0 → Reached program nodes ranges key from budget None
  unfolding Reached from_keyed
  nothing_left s h = let z : left ≡ 0 = omega arith in s ∙ rw z

  module _ (n a : ℕ) (allowed : n ≡ affordable ranges.limit c.at c.stop left) (first : a ≡ first_keyed program key c.at n) where
    range-past : c.at + n ≤ a → from_keyed program key (take left (rest program nodes ranges c)) ≡ from_keyed program key (take (left - n) (later program nodes ranges c.stage c.slot))
    unfolding rest
    range-past h =
        let g = subst (Afforded ranges.limit c.at c.stop left) (sym allowed) (afforded ranges.limit c.at c.stop left) in
        past-range program key c.stage c.slot c.stop (later program nodes ranges c.stage c.slot) n c.at (left_in ranges.limit c.at c.stop) left (omega arith) g.inside g.within g.spent

    pub jumped-to : (d : Cursor) → SameLeft → c.at + n ≤ a → jump_of program nodes ranges c ≡ Some d
        → from_keyed program key (take budget (rest program nodes ranges from)) ≡ from_keyed program key (take (left - n) (rest program nodes ranges d))
    jumped-to d s h e = s ∙ range-past h ∙ ap (λ l. from_keyed program key (take (left - n) l)) (jumped program nodes ranges c d e).list

    pub jumped-over : SameLeft → c.at + n ≤ a → jump_of program nodes ranges c ≡ None → Reached program nodes ranges key from budget None
    unfolding Reached from_keyed
    jumped-over s h e = s ∙ range-past h ∙ rw (jumped-out program nodes ranges c c e, take-nil (left - n))

    pub reached-here : SameLeft → left ≤ budget → c.at ≤ a → a < c.at + n → a < 2 ^ 16
        → Reached program nodes ranges key from budget (Some (cursor_of c.stage c.slot a c.stop, left - (a - c.at) - 1))
    unfolding Reached rest after_cursor
    reached-here s b f h u =
        let g = subst (Afforded ranges.limit c.at c.stop left) (sym allowed) (afforded ranges.limit c.at c.stop left) in
        let i = g.inside in
        let w = g.within in
        let r = followed ranges.limit c.at c.stop (omega arith) in
        let e = r.1 in
        let k = r.0 in
        let o = followed-all ranges.limit (a + 1) c.stop k in
        let t = in-range program key c.stage c.slot c.stop (later program nodes ranges c.stage c.slot) n c.at (left_in ranges.limit c.at c.stop) left a (left - (a - c.at) - 1) (c.stop - (a + 1)) first h i w (omega arith) (omega arith) in
        (s ∙ t.0 ∙ rw (lt-ltb a c.stop (omega arith), o), (t.1, (omega arith, omega arith)))
