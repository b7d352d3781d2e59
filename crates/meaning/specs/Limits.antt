-- The refusals of 01, section 2, over its numbers. No theorem depends on them.
use Rattle.std.specs.Prelude.{◌≡◌, refl, ◌↔◌, List, [], ◌∷◌, ◌++◌, Bool, true, false, ◌&&◌, ◌||◌, cond, eqb, ltb, leb, length, ℕ, suc, ◌+◌, ◌*◌, ◌<◌}
use Rattle.std.proofs.Common.{ap, ◌∙◌, arith}
use Rattle.meaning.specs.Lists.{◌∈◌, here, there}
use Rattle.meaning.specs.Elements.{Name}
use Rattle.meaning.specs.Calls.{Refusals}

pub record Limits : Type 0 where
  pub name : ℕ  -- the longest name
  pub children : ℕ  -- the most children of an element or of the root
  pub pairs : ℕ  -- the most live pairs of name and level
  pub opens : ℕ  -- the most open elements
  pub givers : ℕ  -- the most matched nodes with child trees, summed over the open elements
  pub words : ℕ  -- how many u64 the ids of a popped element take

abbrev pub section_2 : Limits
section_2 = record { name = 63; children = 2147483647; pairs = 512; opens = 256; givers = 4096; words = 2 }

-- Conditions with their numbers, in the order in which they are tested: the number of the first that holds, or 0.
abbrev pub first_of : List (Bool × ℕ) → ℕ
first_of [] = 0
first_of ((b, r) ∷ xs) = cond b r (first_of xs)

abbrev pub bad_name : Limits → Name → Bool
bad_name z x = eqb (length x) 0 || ltb z.name (length x)

-- `bad` tells whether attributes are badly outlined.
abbrev pub refusals : {A : Type 0} → Limits → (A → Bool) → Refusals A
refusals z bad = record {
  at_start = λ w t. first_of ((bad_name z t.name, 20) ∷ (ltb 2 t.namespace, 21) ∷ (leb z.children w.children, 25) ∷ (w.new_pair && leb z.pairs w.pairs, 26) ∷ []);
  at_attributes = λ a. first_of ((bad a, 24) ∷ []);
  at_push = λ w content givers. first_of ((content && leb z.opens w.opens, 27) ∷ (content && ltb z.givers (w.givers + givers), 28) ∷ []);
  at_end = λ x room popped. first_of ((bad_name z x, 20) ∷ (ltb room (popped * z.words), 29) ∷ []);
}

-- ---- Refusals are exact: a number is given exactly when its condition holds and none before it does; none is given exactly when no condition holds.
abbrev pub Fails : List (Bool × ℕ) → Type 0
Fails xs = (x : Bool × ℕ) → x ∈ xs → x.0 ≡ false

fails_more : (b : Bool) (r : ℕ) (xs : List (Bool × ℕ)) → b ≡ false → Fails xs → Fails ((b, r) ∷ xs)
fails_more b r xs e h x (here q) = ap (λ (y : Bool × ℕ). y.0) q ∙ e
fails_more b r xs e h x (there m) = h x m

abbrev pub HoldsFirst : List (Bool × ℕ) → ℕ → Type 0
HoldsFirst xs r = (earlier : List (Bool × ℕ)) × (later : List (Bool × ℕ)) × (xs ≡ earlier ++ ((true, r) ∷ later)) × Fails earlier

first_holds : (xs : List (Bool × ℕ)) (r : ℕ) → first_of xs ≡ suc r → HoldsFirst xs (suc r)
first_holds [] r e = absurd (let z : ⊥ = omega arith in z)
first_holds ((b, q) ∷ xs) r e = go b e (first_holds xs r)
  where
    go : (b : Bool) → cond b q (first_of xs) ≡ suc r → (first_of xs ≡ suc r → HoldsFirst xs (suc r)) → HoldsFirst ((b, q) ∷ xs) (suc r)
    go true e ih = ([], xs, ap (λ (n : ℕ). (true, n) ∷ xs) e, λ x m. elim m [ ])
    go false e ih = let (earlier, later, p, h) = ih e in ((false, q) ∷ earlier, later, ap (λ ys. (false, q) ∷ ys) p, fails_more false q earlier refl h)

holds-first : (earlier later : List (Bool × ℕ)) (r : ℕ) → Fails earlier → first_of (earlier ++ ((true, r) ∷ later)) ≡ r
holds-first [] later r h = refl
holds-first ((b, q) ∷ earlier) later r h = ap (λ c. cond c q (first_of (earlier ++ ((true, r) ∷ later)))) (h (b, q) (here refl)) ∙ holds-first earlier later r (λ x m. h x (there m))

pub given-exactly : (xs : List (Bool × ℕ)) (r : ℕ) → (first_of xs ≡ suc r) ↔ HoldsFirst xs (suc r)
given-exactly xs r = (first_holds xs r, λ (earlier, later, p, h). ap first_of p ∙ holds-first earlier later (suc r) h)

none-holds : (xs : List (Bool × ℕ)) → ((x : Bool × ℕ) → x ∈ xs → 0 < x.1) → first_of xs ≡ 0 → Fails xs
none-holds [] n e = λ x m. elim m [ ]
none-holds ((b, q) ∷ xs) n e = go b refl e (none-holds xs (λ x m. n x (there m)))
  where
    go : (c : Bool) → b ≡ c → cond c q (first_of xs) ≡ 0 → (first_of xs ≡ 0 → Fails xs) → Fails ((b, q) ∷ xs)
    go true d e ih = absurd (let k = n (b, q) (here refl) in let z : ⊥ = omega arith in z)
    go false d e ih = fails_more b q xs d (ih e)

none_first : (xs : List (Bool × ℕ)) → Fails xs → first_of xs ≡ 0
none_first [] h = refl
none_first ((b, q) ∷ xs) h = ap (λ c. cond c q (first_of xs)) (h (b, q) (here refl)) ∙ none_first xs (λ x m. h x (there m))

pub none-given : (xs : List (Bool × ℕ)) → ((x : Bool × ℕ) → x ∈ xs → 0 < x.1) → (first_of xs ≡ 0) ↔ Fails xs
none-given xs n = (none-holds xs n, none_first xs)
