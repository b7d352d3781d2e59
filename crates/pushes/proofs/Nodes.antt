-- The loop over found nodes: which are written.
use Rattle.std.proofs.Common.{◌≡◌, refl, sym, ◌∙◌, ap, Bool, true, false, cond, not, ◌&&◌, List, [], ◌∷◌, ◌++◌, ℕ, suc, ◌+◌, ◌<◌, ◌≤◌, length, get_or, set, take, arith, length-append, append-nil, eq-eqb, ne_eqb, ◌-◌}
use Rattle.std.specs.List.{filter}
use Rattle.std.proofs.lemmas.List.Elements.{filter_more}
use Rattle.std.proofs.lemmas.List.Sums.{length-filter, count_by-le-length}
use Rattle.std.proofs.Math.Seq.{take_all}
use Rattle.cells.specs.Stretches.{cells_or, cells_from, written, cells-below}
use Rattle.stack.specs.Stores.{bears, bearers, listed, new_ancestors, descendant_block}
use Rattle.stack.specs.Laws.{written-cat}
use Rattle.pushes.specs.Kept.{is_kept, kept}

-- ---- looking through a stretch
module _ (ns : List ℕ) (at n a j : ℕ) (inv : listed a (cells_from ns at n) ≡ listed a (cells_from ns (at + j) (n - j))) where
  look : j < n → cells_from ns (at + j) (n - j) ≡ get_or ns (at + j) 0 ∷ cells_from ns (at + (j + 1)) (n - (j + 1))
  unfolding cells_or
  look h = let e : n - j ≡ suc (n - (j + 1)) = omega arith in let f : at + (j + 1) ≡ at + j + 1 = omega arith in rw (e, f)

  pub look_hit : (x : ℕ) → j < n → x ≡ get_or ns (at + j) 0 → a ≡ x → true ≡ listed a (cells_from ns at n)
  unfolding listed
  look_hit x h e q = sym (inv ∙ ap (listed a) (look h) ∙ rw (eq-eqb a (get_or ns (at + j) 0) (q ∙ e)))

  pub look-on : (x : ℕ) → j < n → x ≡ get_or ns (at + j) 0 → (a ≡ x → ⊥) → listed a (cells_from ns at n) ≡ listed a (cells_from ns (at + (j + 1)) (n - (j + 1)))
  unfolding listed
  look-on x h e q = inv ∙ ap (listed a) (look h) ∙ rw (ne_eqb a (get_or ns (at + j) 0) (λ z. q (z ∙ sym e)))

  pub look-end : n ≤ j → false ≡ listed a (cells_from ns at n)
  unfolding listed cells_or
  look-end h = let e : n - j ≡ 0 = omega arith in sym (inv ∙ rw e)

pub look-start : (ns : List ℕ) (at n a : ℕ) → listed a (cells_from ns at n) ≡ listed a (cells_from ns (at + 0) (n - 0))
look-start ns at n a = let e : at + 0 ≡ at = omega arith in let f : n - 0 ≡ n = omega arith in rw (e, f)

-- ---- what is kept, by its two users: behind no list, and behind the ancestors
pub kept-bearers : (ns program : List ℕ) (limit w at : ℕ) (found : List ℕ) → kept (cells_from ns at 0) program limit w found ≡ bearers program limit w found
unfolding bearers listed cells_or
kept-bearers ns program limit w at [] = refl
kept-bearers ns program limit w at (a ∷ found) = rw (kept-bearers ns program limit w at found) (go (bears program limit w a) (a ∷ bearers program limit w found) (bearers program limit w found))
  where
    go : (b : Bool) (x y : List ℕ) → cond (b && true) x y ≡ cond b x y
    go true x y = refl
    go false x y = refl

pub kept-ancestors : (old program : List ℕ) (limit : ℕ) (found : List ℕ) → kept old program limit descendant_block found ≡ new_ancestors old program limit found
unfolding new_ancestors
kept-ancestors old program limit [] = refl
kept-ancestors old program limit (a ∷ found) = rw (kept-ancestors old program limit found) (go (bears program limit descendant_block a) (listed a old) (a ∷ new_ancestors old program limit found) (new_ancestors old program limit found))
  where
    go : (b c : Bool) (x y : List ℕ) → cond (b && not c) x y ≡ cond b (cond c y x) y
    go true true x y = refl
    go true false x y = refl
    go false c x y = refl

pub kept-few : (old program : List ℕ) (limit w : ℕ) (found : List ℕ) → length (kept old program limit w found) ≤ length found
kept-few old program limit w found = omega (arith, length-filter (is_kept old program limit w) found, count_by-le-length (is_kept old program limit w) found)

-- ---- one node: three ways out
module _ (old program : List ℕ) (limit w a : ℕ) (b : Bool) (e : b ≡ bears program limit w a) where
  pub kept-none : b ≡ false → is_kept old program limit w a ≡ false
  kept-none t = rw (← e, t)

  module _ (t : b ≡ true) (c : Bool) (f : c ≡ listed a old) where
    pub kept-old : c ≡ true → is_kept old program limit w a ≡ false
    kept-old u = rw (← e, t, ← f, u)

    pub kept-new : c ≡ false → is_kept old program limit w a ≡ true
    kept-new u = rw (← e, t, ← f, u)

-- ---- how far the loop has come
module _ (p : ℕ → Bool) (ns₀ : List ℕ) (at : ℕ) (found : List ℕ) where
  pub record IsKept (ns : List ℕ) (k i : ℕ) : Type 0 where
    pub stored : ns ≡ written ns₀ at (filter p (take i found))
    pub count : k ≡ at + length (filter p (take i found))
    pub few : k ≤ at + i

  pub kept-start : IsKept ns₀ at 0
  unfolding written
  kept-start = record { stored = refl; count = omega arith; few = omega arith }

  module _ (ns : List ℕ) (k i : ℕ) (r : IsKept ns k i) where
    module _ (h : i < length found) where
      pub kept-yes : (ns' : List ℕ) → p (get_or found i 0) ≡ true → ns' ≡ set ns k (get_or found i 0) → IsKept ns' (k + 1) (i + 1)
      unfolding written
      kept-yes ns' e q =
          let one = get_or found i 0 ∷ [] in
          let m : filter p (take (i + 1) found) ≡ filter p (take i found) ++ one = filter_more p found i 0 h ∙ rw e in
          let w = written-cat ns₀ at (filter p (take i found)) one in
          let l = ap length m ∙ length-append (filter p (take i found)) one in
          record { stored = q ∙ rw (r.stored, r.count, m, w); count = omega (arith, r.count); few = omega (arith, r.few) }

      pub kept-no : p (get_or found i 0) ≡ false → IsKept ns k (i + 1)
      kept-no e =
          let m : filter p (take (i + 1) found) ≡ filter p (take i found) = filter_more p found i 0 h ∙ rw e (append-nil (filter p (take i found))) in
          record { stored = rw m r.stored; count = rw m r.count; few = omega (arith, r.few) }

    pub kept-end : length found ≤ i → (ns ≡ written ns₀ at (filter p found)) × (k ≡ at + length (filter p found))
    kept-end h = let e : take i found ≡ found = take_all i found h in
        let f : (ns ≡ written ns₀ at (filter p (take i found))) × (k ≡ at + length (filter p (take i found))) = (r.stored, r.count) in
        rw e at f

    -- what stands before the place that is written to
    pub kept_below : (b n : ℕ) → b + n ≤ at → cells_from ns b n ≡ cells_from ns₀ b n
    kept_below b n h = rw r.stored (cells-below ns₀ at (filter p (take i found)) b n h)
