-- One turn of the loops over words of ids.
use mathlib.Core.Path.{◌≡◌, refl, sym, ap, ◌∙◌}
use mathlib.Core.Bool.{Bool, true, false, cond}
use mathlib.Core.List.{List, [], ◌∷◌, ◌++◌, append-nil, append_assoc}
use Prim.Native.Nat.{ℕ, zero, suc, ◌+◌, ◌-◌, ◌*◌, ◌/◌, ◌%◌, ◌^◌, ◌<◌, ◌≤◌, min}
use native.Mathlib.Nat.{lt_of_lt_of_le, lt_of_le_of_lt, one-mul, zero-div, add-zero, zero-add, suc-add, add_assoc, div-one, div-eq_of_lt, div-div-eq-div-mul, pow-suc, pow-succ'}
use native.Mathlib.Numerals.{add-one}
use native.Mathlib.Omega.{arith}
use borrow.Author.Tests.{ltb-true, ltb-false}
use lib.Bits.{bit_or}
use lib.Count.{ones, ones_in, ones_step, count_trailing_zeros, under}
use lib.Dec.{eqb, ltb}
use lib.ListN.{length, get_or, take, drop, set, length-append, drop_of_length-le, take-append-drop}
use lib.Pow.{pow_mono, shl_exact, shr_le, shr-shr}
use lib.Seq.{drop-cons, drop-set-lt, take-suc-set, take_all}
use Rattle.id_sets.specs.Ids.{bit, has_id, ids_from, first_of, with_id, union}
use Rattle.id_sets.specs.IdLaws.{member-inside}
use Rattle.std.specs.Prelude.{None, Some}
use Rattle.std.specs.List.{sum_by}
use Rattle.std.proofs.lemmas.List.Sums.{sum_by_more}

-- ---- lists of members

cond-append : (b : Bool) (x : ℕ) (xs ys : List ℕ) → cond b (x ∷ (xs ++ ys)) (xs ++ ys) ≡ cond b (x ∷ xs) xs ++ ys
cond-append true x xs ys = refl
cond-append false x xs ys = refl

module _ (words : List ℕ) where
  pub ids-split : (id m n : ℕ) → ids_from words id (m + n) ≡ ids_from words id m ++ ids_from words (id + m) n
  unfolding ids_from
  ids-split id zero n = rw (zero-add n, add-zero id)
  ids-split id (suc m) n =
      let e : id + suc m ≡ id + 1 + m = omega arith in
      rw (suc-add m n, e, ids-split (id + 1) m n) (cond-append (has_id words id) id (ids_from words (id + 1) m) (ids_from words (id + 1 + m) n))

  pub ids-none : (id m : ℕ) → ((j : ℕ) → j < m → has_id words (id + j) ≡ false) → ids_from words id m ≡ []
  unfolding ids_from
  ids-none id zero h = refl
  ids-none id (suc m) h =
      let a : has_id words id ≡ false = rw add-zero at (h 0 (omega arith)) in
      rw a (ids-none (id + 1) m (λ j g. rw (add_assoc id 1 j) (h (1 + j) (omega arith))))

  module _ (k : ℕ) where
    -- the ids of word k are its bits
    word-has : (j : ℕ) → j < 64 → has_id words (k * 64 + j) ≡ eqb (bit (get_or words k 0) j) 1
    unfolding has_id
    word-has j h =
        let d : (k * 64 + j) / 64 ≡ k = omega arith in
        let m : (k * 64 + j) % 64 ≡ j = omega arith in
        rw (d, m)

    digit : (b : ℕ) → b < 2 → (id : ℕ) (ids : List ℕ) → length (cond (eqb b 1) (id ∷ ids) ids) ≡ b + length ids
    digit zero h id ids = sym (zero-add (length ids))
    digit (suc zero) h id ids = omega arith
    digit (suc (suc b)) h id ids = absurd (omega arith)

    count-from : (j n : ℕ) → j + n ≡ 64 → get_or words k 0 < 2 ^ 64 → length (ids_from words (k * 64 + j) n) ≡ ones (get_or words k 0 / 2 ^ j)
    unfolding ids_from ones ones_in
    count-from j zero e h = let z : j ≡ 64 = omega arith in rw (z, div-eq_of_lt h)
    count-from j (suc n) e h =
        let w = get_or words k 0 in
        rw (word-has j (omega arith), digit (bit w j) (omega arith), add_assoc (k * 64) j 1, count-from (j + 1) n (omega arith) h, ones_step (w / 2 ^ j), shr-shr w j 1)

    -- with the next word's ids the count is that of the words so far and its own
    pub counted : (count : ℕ) → get_or words k 0 < 2 ^ 64 → count ≡ length (ids_from words 0 (k * 64)) → count + ones (get_or words k 0) ≡ length (ids_from words 0 ((k + 1) * 64))
    counted count h q =
        let e : (k + 1) * 64 ≡ k * 64 + 64 = omega arith in
        let c : length (ids_from words (k * 64 + 0) 64) ≡ ones (get_or words k 0 / 2 ^ 0) = count-from 0 64 refl h in
        let d : length (ids_from words (k * 64) 64) ≡ ones (get_or words k 0) = rw (add-zero (k * 64), div-one (get_or words k 0)) at c in
        rw (e, ids-split 0 (k * 64) 64, length-append, zero-add (k * 64), d, q)

-- ---- the lowest bit of a word

bit-half : (w j : ℕ) → bit w (suc j) ≡ bit (w / 2) j
bit-half w j = rw (pow-succ' 2 j, ← div-div-eq-div-mul w 2 (2 ^ j))

half_lt : (k w : ℕ) → w < 2 ^ suc k → w / 2 < 2 ^ k
half_lt k w h = let e = pow-suc 2 k in omega arith

-- it stands where the zeros end
record Lowest (w t k : ℕ) : Type 0 where
  pub inside : t < k
  pub set_bit : bit w t ≡ 1
  pub zeros : (j : ℕ) → j < t → bit w j ≡ 0

lowest-odd : (w k : ℕ) → w % 2 ≡ 1 → Lowest w 0 (suc k)
lowest-odd w k e = record { inside = omega arith; set_bit = rw (div-one w) e; zeros = λ j h. absurd (omega arith) }

lowest-even : (w t k : ℕ) → w % 2 ≡ 0 → Lowest (w / 2) t k → Lowest w (suc t) (suc k)
lowest-even w t k e l = record { inside = omega (arith, l.inside); set_bit = bit-half w t ∙ l.set_bit; zeros = zeros-at }
  where
    zeros-at : (j : ℕ) → j < suc t → bit w j ≡ 0
    zeros-at zero h = rw (div-one w) e
    zeros-at (suc j) h = bit-half w j ∙ l.zeros j (omega arith)

lowest : (k w : ℕ) → 0 < w → w < 2 ^ k → Lowest w (count_trailing_zeros k w) k
unfolding count_trailing_zeros
lowest zero w p h = absurd (omega arith)
lowest (suc k) w p h = go (w % 2) refl (λ q. lowest k (w / 2) q (half_lt k w h))
  where
    go : (b : ℕ) → w % 2 ≡ b → (0 < w / 2 → Lowest (w / 2) (count_trailing_zeros k (w / 2)) k) → Lowest w (under b (count_trailing_zeros k (w / 2))) (suc k)
    go zero e ih = lowest-even w _ k e (ih (omega arith))
    go (suc zero) e ih = lowest-odd w k e
    go (suc (suc b)) e ih = absurd (omega arith)

-- ---- the next member

module _ (words : List ℕ) (k passed : ℕ) where
  -- the bits of word k that are not passed, and the id of the first of them
  abbrev bits : ℕ
  bits = get_or words k 0 / 2 ^ passed

  abbrev here : ℕ
  here = k * 64 + passed

  bit-on : (j : ℕ) → bit (get_or words k 0) (passed + j) ≡ bit bits j
  bit-on j = rw (shr-shr (get_or words k 0) passed j)

  has_on : (j b : ℕ) → passed + j < 64 → bit bits j ≡ b → has_id words (here + j) ≡ eqb b 1
  has_on j b h e = rw (add_assoc (k * 64) passed j, word-has words k (passed + j) h, bit-on j, e)

  module _ (fits : get_or words k 0 < 2 ^ 64) where
    -- a bit past the word's 64 is not set
    inside-word : (t : ℕ) → bit bits t ≡ 1 → passed + t < 64
    inside-word t e = go (ltb (passed + t) 64) refl
      where
        go : (b : Bool) → ltb (passed + t) 64 ≡ b → passed + t < 64
        go true q = ltb-true _ _ q
        go false q =
            let z : get_or words k 0 / 2 ^ (passed + t) ≡ 0 = div-eq_of_lt (lt_of_lt_of_le fits (pow_mono (ltb-false _ _ q))) in
            let y : get_or words k 0 / 2 ^ (passed + t) % 2 ≡ 1 = bit-on t ∙ e in
            absurd (omega (arith, z, y))

    first : 0 < bits → Lowest bits (count_trailing_zeros 64 bits) 64
    first p = lowest 64 bits p (lt_of_le_of_lt (shr_le (get_or words k 0) passed) fits)

    pub next_small : 0 < bits → passed + count_trailing_zeros 64 bits < 64
    next_small p = inside-word (count_trailing_zeros 64 bits) (first p).set_bit

    module _ (n : ℕ) (inside : (k + 1) * 64 ≤ n) where
      pub next-found : 0 < bits → Some (here + count_trailing_zeros 64 bits) ≡ first_of (ids_from words here (n - here))
      unfolding ids_from first_of
      next-found p =
          let t = count_trailing_zeros 64 bits in
          let i : passed + t < 64 = next_small p in
          let m = n - (here + t + 1) in
          let e : n - here ≡ t + suc m = omega (arith, i, inside) in
          let z : ids_from words here t ≡ [] = ids-none words here t (λ j g. has_on j 0 (omega (arith, i, g)) ((first p).zeros j g)) in
          rw (e, ids-split words here t (suc m), z, has_on t 1 i (first p).set_bit)

      pub next-later : passed < 64 → bits ≡ 0 → ids_from words here (n - here) ≡ ids_from words ((k + 1) * 64 + 0) (n - ((k + 1) * 64 + 0))
      next-later g e =
          let m = 64 - passed in
          let a : n - here ≡ m + (n - ((k + 1) * 64 + 0)) = omega (arith, inside, g) in
          let b : here + m ≡ (k + 1) * 64 + 0 = omega (arith, g) in
          let z : ids_from words here m ≡ [] = ids-none words here m (λ j h. has_on j 0 (omega (arith, h, g)) (rw (e, zero-div (2 ^ j)))) in
          rw (a, ids-split words here m (n - ((k + 1) * 64 + 0)), z, b)

-- past the words there is no member
pub ids-past : (words : List ℕ) (id n : ℕ) → length words * 64 ≤ id → ids_from words id n ≡ []
ids-past words id n h = ids-none words id n (λ j g. member-inside words (id + j) (omega arith))

-- where the loop ends, past the words or past id 65,535
pub next-end : (words : List ℕ) (k passed : ℕ) → min (length words) 1024 ≤ k → None ≡ first_of (ids_from words (k * 64 + passed) (65536 - (k * 64 + passed)))
unfolding ids_from first_of
next-end words k passed h = go (ltb k 1024) refl
  where
    id : ℕ
    id = k * 64 + passed

    go : (b : Bool) → ltb k 1024 ≡ b → None ≡ first_of (ids_from words id (65536 - id))
    go true e = let l = ltb-true k 1024 e in rw (ids-past words id (65536 - id) (omega arith))
    go false e = let l = ltb-false k 1024 e in let z : 65536 - id ≡ 0 = omega arith in rw z

count_past : (words : List ℕ) (k n : ℕ) → length words ≤ k → k * 64 ≤ n → length (ids_from words 0 (k * 64)) ≡ length (ids_from words 0 n)
count_past words k n h g =
    let e : n ≡ k * 64 + (n - k * 64) = omega arith in
    let s : ids_from words 0 n ≡ ids_from words 0 (k * 64) ++ ids_from words (0 + k * 64) (n - k * 64) = ap (ids_from words 0) e ∙ ids-split words 0 (k * 64) (n - k * 64) in
    rw (s, ids-past words (0 + k * 64) (n - k * 64) (omega arith), append-nil (ids_from words 0 (k * 64)))

-- the ids of the first words are as many as the bits that are set there
pub sum-ones : (words : List ℕ) → ((i : ℕ) → get_or words i 0 < 2 ^ 64) → (k : ℕ) → sum_by ones (take k words) ≡ length (ids_from words 0 (k * 64))
unfolding ids_from
sum-ones words fits zero = refl
sum-ones words fits (suc k) = go (ltb k (length words)) refl (sum-ones words fits k)
  where
    go : (b : Bool) → ltb k (length words) ≡ b → sum_by ones (take k words) ≡ length (ids_from words 0 (k * 64)) → sum_by ones (take (suc k) words) ≡ length (ids_from words 0 (suc k * 64))
    go true q e = let n : suc k ≡ k + 1 = omega arith in rw (n, sum_by_more ones words k 0 (ltb-true k (length words) q)) (counted words k (sum_by ones (take k words)) (fits k) e)
    go false q e =
        let l = ltb-false k (length words) q in
        let t : take (suc k) words ≡ take k words = take_all (suc k) words (omega arith) ∙ sym (take_all k words l) in
        rw t (e ∙ count_past words k (suc k * 64) l (omega arith))

-- ---- one id more, and unions

pub with-is : (words last : List ℕ) (id w : ℕ) → w ≡ get_or words (id / 64) 0 → last ≡ set words (id / 64) (bit_or w (1 * 2 ^ (id % 64) % 2 ^ 64)) → last ≡ with_id words id
unfolding with_id
with-is words last id w e f =
    let p : 1 * 2 ^ (id % 64) % 2 ^ 64 ≡ 1 * 2 ^ (id % 64) = shl_exact {a = 1} 1 (id % 64) 64 (omega arith) (omega arith) in
    f ∙ rw (p, one-mul (2 ^ (id % 64)), e)

union-alone : (words : List ℕ) → union words [] ≡ words
unfolding union
union-alone [] = refl
union-alone (w ∷ ws) = refl

module _ (words more : List ℕ) (i : ℕ) where
  pub union-step : i < length words → i < length more
      → take i words ++ union (drop i words) (drop i more) ≡ take (i + 1) (set words i (bit_or (get_or words i 0) (get_or more i 0))) ++ union (drop (i + 1) (set words i (bit_or (get_or words i 0) (get_or more i 0)))) (drop (i + 1) more)
  unfolding union
  union-step h g =
      let x = bit_or (get_or words i 0) (get_or more i 0) in
      rw (add-one i, drop-cons words i 0 h, drop-cons more i 0 g, take-suc-set words i x h, drop-set-lt (suc i) words i x (omega arith))
      (sym (append_assoc (take i words) (x ∷ []) (union (drop (suc i) words) (drop (suc i) more))))

  pub union-done : length more ≤ i → i ≤ length words → take i words ++ union (drop i words) (drop i more) ≡ words
  unfolding union
  union-done h g = rw (drop_of_length-le more h, union-alone (drop i words)) (take-append-drop i words)

  pub union-all : length words ≤ i → take i words ++ union (drop i words) (drop i more) ≡ words
  unfolding union
  union-all h = rw (drop_of_length-le words h, take_all i words h) (append-nil words)
