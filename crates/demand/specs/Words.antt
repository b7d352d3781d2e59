-- Sets of ids as words, in the terms of `meaning`: their members listed in rising order, and those of the found nodes.
use Rattle.std.specs.Prelude.{◌≡◌, ◌↔◌, Bool, ◌||◌, length, get_or}
use Rattle.std.proofs.Math.Path.{refl}
use Rattle.std.proofs.Common.{sym, ap, ◌∙◌, subst, length-set}
use Rattle.std.proofs.Math.Bool.{true, false, cond}
use mathlib.Core.List.{List, [], ◌∷◌, ◌++◌, flat_map}
use Prim.Native.Nat.{ℕ, zero, suc, ◌+◌, ◌/◌, ◌%◌, ◌^◌, ◌<◌, ◌≤◌}
use native.Mathlib.Omega.{arith}
use Rattle.std.proofs.Math.Nat.{zero-div}
use borrow.Author.Tests.{eq-eqb, eqb-true, eqb-false, ltb-true, ltb-false}
use Rattle.std.proofs.Math.Dec.{T, eqb, ltb}
use Rattle.id_sets.specs.Ids.{has_id, ids_from, ids_of, with_id}
use Rattle.id_sets.specs.IdLaws as ids
use Rattle.id_sets.specs.IdLaws.{member-inside, ids-rise}
use Rattle.instructions.specs.FoundIds.{ids_of_node, with_ids, with_ids_of, listed, with-ids-law, gathered-members}
use Rattle.meaning.specs.Lists.{◌∈◌, here, there, Rising, keep, gather}
use Rattle.meaning.proofs.ListLaws.{keep-mem, mem-keep, gather-mem, mem-gather}

holds : {b : Bool} → b ≡ true → T b
holds e = subst T (sym e) tt

is_true : (b : Bool) → T b → b ≡ true
is_true true t = refl
is_true false t = absurd t

-- ---- the members of words
module _ (words : List ℕ) where
  listed-member : (id n i : ℕ) → i ∈ ids_from words id n → T (has_id words i)
  unfolding ids_from
  listed-member id zero i m = elim m [ ]
  listed-member id (suc n) i m = go (has_id words id) refl (listed-member (id + 1) n i) m
    where
      go : (b : Bool) → has_id words id ≡ b → (i ∈ ids_from words (id + 1) n → T (has_id words i)) → i ∈ cond b (id ∷ ids_from words (id + 1) n) (ids_from words (id + 1) n) → T (has_id words i)
      go true e ih (here h) = rw h (holds e)
      go true e ih (there m) = ih m
      go false e ih m = ih m

  member-listed : (id n i : ℕ) → id ≤ i → i < id + n → T (has_id words i) → i ∈ ids_from words id n
  unfolding ids_from
  member-listed id zero i h g t = absurd (let q : ⊥ = omega arith in q)
  member-listed id (suc n) i h g t = go (has_id words id) refl (eqb i id) refl (λ k. member-listed (id + 1) n i k (omega arith) t)
    where
      go : (b : Bool) → has_id words id ≡ b → (c : Bool) → eqb i id ≡ c → (id + 1 ≤ i → i ∈ ids_from words (id + 1) n) → i ∈ cond b (id ∷ ids_from words (id + 1) n) (ids_from words (id + 1) n)
      go true e true f ih = here (eqb-true i id f)
      go true e false f ih = let n' = eqb-false i id f in there (ih (omega arith))
      go false e true f ih = let z : i ≡ id = eqb-true i id f in absurd (subst T (ap (has_id words) z ∙ e) t)
      go false e false f ih = let n' = eqb-false i id f in ih (omega arith)

least : (low : ℕ) (xs : List ℕ) → ids.Rising low xs → (y : ℕ) → y ∈ xs → low ≤ y
unfolding ids.Rising
least low (x ∷ xs) (a, r) y (here e) = omega arith
least low (x ∷ xs) (a, r) y (there m) = let k = least (x + 1) xs r y m in omega arith
least low [] _ y x3 = elim x3 [ ]

rising-of : (low : ℕ) (xs : List ℕ) → ids.Rising low xs → Rising xs
unfolding ids.Rising
rising-of low [] r = tt
rising-of low (x ∷ xs) (a, r) = ((λ y m. let k = least (x + 1) xs r y m in omega arith), rising-of (x + 1) xs r)

-- The listed members rise.
pub words-rise : (words : List ℕ) → Rising (ids_of words)
words-rise words = rising-of 0 (ids_of words) (ids-rise words)

-- ---- the ids of found nodes
listed-mem : (i : ℕ) (xs : List ℕ) → T (listed i xs) → i ∈ xs
unfolding listed
listed-mem i (x ∷ xs) t = go (eqb x i) refl (listed-mem i xs) t
  where
    go : (b : Bool) → eqb x i ≡ b → (T (listed i xs) → i ∈ xs) → T (b || listed i xs) → i ∈ (x ∷ xs)
    go true e ih t = here (sym (eqb-true x i e))
    go false e ih t = there (ih t)
listed-mem i [] t = elim t [ ]

mem-listed : (i : ℕ) (xs : List ℕ) → i ∈ xs → T (listed i xs)
unfolding listed
mem-listed i (x ∷ xs) (here e) = rw (eq-eqb x i (sym e)) tt
mem-listed i (x ∷ xs) (there m) = go (eqb x i) (mem-listed i xs m)
  where
    go : (b : Bool) → T (listed i xs) → T (b || listed i xs)
    go true t = tt
    go false t = t
mem-listed i [] x' = elim x' [ ]

pub flat-gather : {A B : Type 0} (f : A → List B) (xs : List A) → flat_map f xs ≡ gather f xs
unfolding flat_map
flat-gather f [] = refl
flat-gather f (x ∷ xs) = ap (λ l. f x ++ l) (flat-gather f xs)

no_word : (k : ℕ) → ◌≡◌ {A = ℕ} (get_or (0 ∷ 0 ∷ []) k 0) 0
no_word zero = refl
no_word (suc zero) = refl
no_word (suc (suc k)) = refl

no_member : (i : ℕ) → has_id (0 ∷ 0 ∷ []) i ≡ false
unfolding has_id
no_member i = rw (no_word (i / 64), zero-div (2 ^ (i % 64)))

-- Two words hold ids below 128.
pub low-kept : (ids : ℕ → List ℕ) (found : List ℕ) (i : ℕ) → i ∈ gather (λ a. keep (λ j. ltb j 128) (ids a)) found → i < 128
low-kept ids found i m = let (a, b, c) = gather-mem (λ a. keep (λ j. ltb j 128) (ids a)) found m in ltb-true i 128 (is_true (ltb i 128) (keep-mem (λ j. ltb j 128) (ids a) c).1)

length_ids : (words more : List ℕ) → length (with_ids words more) ≡ length words
unfolding with_ids with_id
length_ids words [] = refl
length_ids words (id ∷ more) = length_ids (with_id words id) more ∙ length-set words (id / 64) _

pub words_of : (xs : List ℕ) → ((i : ℕ) → i ∈ xs → i < 128) → (i : ℕ) → (i ∈ ids_of (with_ids (0 ∷ 0 ∷ []) xs)) ↔ (i ∈ xs)
unfolding ids_of
words_of xs low i = (
  (λ m. let t = listed-member (with_ids (0 ∷ 0 ∷ []) xs) 0 65536 i m in within t (ltb i 128) refl),
  (λ m.
      let h = low i m in
      member-listed (with_ids (0 ∷ 0 ∷ []) xs) 0 65536 i (omega arith) (omega arith) (rw (has i h) (mem-listed i xs m))),
)
  where
    has : (i : ℕ) → i < 128 → has_id (with_ids (0 ∷ 0 ∷ []) xs) i ≡ listed i xs
    has i h = with-ids-law (0 ∷ 0 ∷ []) xs i (omega arith) ∙ rw (no_member i)

    within : T (has_id (with_ids (0 ∷ 0 ∷ []) xs) i) → (b : Bool) → ltb i 128 ≡ b → i ∈ xs
    within t true e = listed-mem i xs (rw (has i (ltb-true i 128 e)) at t)
    within t false e =
        let l = length_ids (0 ∷ 0 ∷ []) xs in
        let k : 128 ≤ i = ltb-false i 128 e in
        absurd (subst T (member-inside (with_ids (0 ∷ 0 ∷ []) xs) i (omega arith)) t)

module _ (sheet program : List ℕ) where
  -- The ids that a node's record lists, as far as two words reach.
  abbrev pub node_ids : ℕ → List ℕ
  node_ids a = keep (λ i. ltb i 128) (ids_of_node sheet program a)

  length_found : (words found : List ℕ) → length (with_ids_of sheet program words found) ≡ length words
  unfolding with_ids_of
  length_found words [] = refl
  length_found words (a ∷ found) = length_found (with_ids words (ids_of_node sheet program a)) found ∙ length_ids words (ids_of_node sheet program a)

  -- Two words.
  pub two-words : (found : List ℕ) → length (with_ids_of sheet program (0 ∷ 0 ∷ []) found) ≡ 2
  two-words found = length_found (0 ∷ 0 ∷ []) found

  has-found : (found : List ℕ) (i : ℕ) → i < 128 → has_id (with_ids_of sheet program (0 ∷ 0 ∷ []) found) i ≡ listed i (gather (ids_of_node sheet program) found)
  has-found found i h = gathered-members sheet program (0 ∷ 0 ∷ []) found i (omega arith) ∙ rw (no_member i, flat-gather (ids_of_node sheet program) found)

  -- The listed ids are those of the found nodes.
  pub words-united : (found : List ℕ) (i : ℕ) → (i ∈ ids_of (with_ids_of sheet program (0 ∷ 0 ∷ []) found)) ↔ (i ∈ gather node_ids found)
  unfolding ids_of
  words-united found i = (
    (λ m. let t = listed-member (with_ids_of sheet program (0 ∷ 0 ∷ []) found) 0 65536 i m in within t (ltb i 128) refl),
    (λ m.
        let h = low-kept (ids_of_node sheet program) found i m in
        let (a, b, c) = gather-mem node_ids found m in
        let d = mem-gather (ids_of_node sheet program) found b (keep-mem (λ j. ltb j 128) (ids_of_node sheet program a) c).0 in
        member-listed (with_ids_of sheet program (0 ∷ 0 ∷ []) found) 0 65536 i (omega arith) (omega arith) (rw (has-found found i h) (mem-listed i (gather (ids_of_node sheet program) found) d))),
  )
    where
      within : T (has_id (with_ids_of sheet program (0 ∷ 0 ∷ []) found) i) → (b : Bool) → ltb i 128 ≡ b → i ∈ gather node_ids found
      within t true e =
          let h = ltb-true i 128 e in
          let (a, b, c) = gather-mem (ids_of_node sheet program) found (listed-mem i (gather (ids_of_node sheet program) found) (rw (has-found found i h) at t)) in
          mem-gather node_ids found b (mem-keep (λ j. ltb j 128) (ids_of_node sheet program a) c (holds e))
      within t false e =
          let l = two-words found in
          let k : 128 ≤ i = ltb-false i 128 e in
          absurd (subst T (member-inside (with_ids_of sheet program (0 ∷ 0 ∷ []) found) i (omega arith)) t)
