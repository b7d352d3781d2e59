-- What the sets of ids mean: a listed id is a member, each once and rising, and all members are listed; unions are of members.
use Rattle.std.specs.Prelude.{◌≡◌, ◌↔◌, Bool, cond, ◌||◌, length, get_or, set}
use Rattle.std.proofs.Math.Path.{refl}
use Rattle.std.proofs.Common.{sym, ap, ◌∙◌, subst, div-one, pow-suc, get_or-set_other, get_or-set_same}
use Rattle.std.proofs.Math.Logic.{⊎_elim}
use Rattle.std.proofs.Math.Bool.{true, false, or-false}
use mathlib.Core.List.Memᴰ
use mathlib.Core.List.{List, [], ◌∷◌, Memᴰ}
use Prim.Native.Nat.{ℕ, zero, suc, ◌+◌, ◌*◌, ◌/◌, ◌%◌, ◌^◌, ◌<◌, ◌≤◌, max}
use native.Mathlib.Omega.{arith}
use Rattle.std.proofs.Math.Nat.{zero-div, div-eq_of_lt, mul-mod_left, mul-div-mul_left, pow-succ'}
use borrow.Author.Tests.{eq-eqb, ne_eqb, eqb-true, eqb-false}
use Rattle.std.proofs.Math.Arith.{digits_mod}
use Rattle.std.specs.Int.Bits.{bit_or, or_step}
use Rattle.std.proofs.lemmas.Nat.{or_shr}
use Rattle.std.proofs.Math.Dec.{T, eqb, eqb-suc-suc}
use Rattle.std.proofs.Math.ListN.{get_or-eq_default}
use Rattle.std.proofs.Math.Pow.{pow-lt}
use Rattle.id_sets.specs.Ids.{bit, has_id, ids_from, ids_of, with_id, union}

no-bit : (i : ℕ) → eqb (bit 0 i) 1 ≡ false
no-bit i = rw (zero-div (2 ^ i))

-- ---- the list of members

-- Strictly rising, none below the least.
unfoldable pub Rising : ℕ → List ℕ → Type 0
Rising least [] = Unit {0}
Rising least (id ∷ ids) = (least ≤ id) × Rising (id + 1) ids

rising-weaker : (least more : ℕ) (ids : List ℕ) → least ≤ more → Rising more ids → Rising least ids
unfolding Rising
rising-weaker least more [] h r = tt
rising-weaker least more (id ∷ ids) h r = (omega (arith, r.0), r.1)

module _ (words : List ℕ) where
  pub rising-law : (id n : ℕ) → Rising id (ids_from words id n)
  unfolding ids_from Rising
  rising-law id zero = tt
  rising-law id (suc n) = go (has_id words id) (rising-law (id + 1) n)
    where
      go : (b : Bool) → Rising (id + 1) (ids_from words (id + 1) n) → Rising id (cond b (id ∷ ids_from words (id + 1) n) (ids_from words (id + 1) n))
      go true r = (omega arith, r)
      go false r = rising-weaker id (id + 1) (ids_from words (id + 1) n) (omega arith) r

  -- what is listed from id on lies there, and is a member
  listed-member : (id n i : ℕ) → Memᴰ i (ids_from words id n) → T (has_id words i)
  unfolding ids_from
  listed-member id zero i m = absurd (Memᴰ.not-nil m)
  listed-member id (suc n) i m = go (has_id words id) refl (listed-member (id + 1) n i) m
    where
      go : (b : Bool) → has_id words id ≡ b → (Memᴰ i (ids_from words (id + 1) n) → T (has_id words i)) → Memᴰ i (cond b (id ∷ ids_from words (id + 1) n) (ids_from words (id + 1) n)) → T (has_id words i)
      go true e ih m = ⊎_elim (λ h. rw h (subst T (sym e) tt)) ih (Memᴰ.cases_cons m)
      go false e ih m = ih m

  member-listed : (id n i : ℕ) → id ≤ i → i < id + n → T (has_id words i) → Memᴰ i (ids_from words id n)
  unfolding ids_from
  member-listed id zero i h g t = absurd (omega arith)
  member-listed id (suc n) i h g t = go (has_id words id) refl (eqb i id) refl (λ k. member-listed (id + 1) n i k (omega arith) t)
    where
      go : (b : Bool) → has_id words id ≡ b → (c : Bool) → eqb i id ≡ c → (id + 1 ≤ i → Memᴰ i (ids_from words (id + 1) n)) → Memᴰ i (cond b (id ∷ ids_from words (id + 1) n) (ids_from words (id + 1) n))
      go true e true f ih = Memᴰ.head (eqb-true i id f)
      go true e false f ih = let n' = eqb-false i id f in Memᴰ.tail (ih (omega arith))
      go false e true f ih = let z : i ≡ id = eqb-true i id f in absurd (subst T (ap (has_id words) z ∙ e) t)
      go false e false f ih = let n' = eqb-false i id f in ih (omega arith)

  -- An id below 65,536 is listed exactly when it is a member.
  pub ids-law : (i : ℕ) → i < 65536 → Memᴰ i (ids_of words) ↔ T (has_id words i)
  unfolding ids_of
  ids-law i h = (listed-member 0 65536 i, member-listed 0 65536 i (omega arith) (omega arith))

  -- The ids that are listed rise strictly, so each is listed once.
  pub ids-rise : Rising 0 (ids_of words)
  unfolding ids_of
  ids-rise = rising-law 0 65536

-- No id past the words is a member.
pub member-inside : (words : List ℕ) (i : ℕ) → length words * 64 ≤ i → has_id words i ≡ false
unfolding has_id
member-inside words i h =
    let z : get_or words (i / 64) 0 ≡ 0 = get_or-eq_default words 0 (omega arith) in
    rw z (no-bit (i % 64))

-- ---- unions

-- a bit of a union of words
pub or-bit : (a b i : ℕ) → bit (bit_or a b) i ≡ max (bit a i) (bit b i)
or-bit a b i =
    rw (or_shr a b i, or_step (a / 2 ^ i) (b / 2 ^ i))
    (digits_mod (bit_or (a / 2 ^ i / 2) (b / 2 ^ i / 2)) (omega arith))

one-or : (x y : ℕ) → x < 2 → y < 2 → eqb (max x y) 1 ≡ (eqb x 1 || eqb y 1)
one-or zero zero h g = refl
one-or zero (suc zero) h g = refl
one-or (suc zero) zero h g = refl
one-or (suc zero) (suc zero) h g = refl
one-or (suc (suc x)) y h g = absurd (omega arith)
one-or zero (suc (suc y)) h g = absurd (omega arith)
one-or (suc zero) (suc (suc y)) h g = absurd (omega arith)

or-has : (a b i : ℕ) → eqb (bit (bit_or a b) i) 1 ≡ (eqb (bit a i) 1 || eqb (bit b i) 1)
or-has a b i = rw (or-bit a b i) (one-or (bit a i) (bit b i) (omega arith) (omega arith))

union-word : (words more : List ℕ) (k i : ℕ) → k < length words → eqb (bit (get_or (union words more) k 0) i) 1 ≡ (eqb (bit (get_or words k 0) i) 1 || eqb (bit (get_or more k 0) i) 1)
unfolding union
union-word [] more k i h = absurd (omega arith)
union-word (w ∷ ws) [] k i h = rw (no-bit i) (sym (or-false (eqb (bit (get_or (w ∷ ws) k 0) i) 1)))
union-word (w ∷ ws) (m ∷ more) zero i h = or-has w m i
union-word (w ∷ ws) (m ∷ more) (suc k) i h = union-word ws more k i (omega arith)

-- A member of a union is a member of one of its sets.
pub union-law : (words more : List ℕ) (id : ℕ) → id / 64 < length words → has_id (union words more) id ≡ (has_id words id || has_id more id)
unfolding has_id
union-law words more id h = union-word words more (id / 64) (id % 64) h

-- a bit of a word with one bit
power-bit : (a b : ℕ) → eqb (bit (2 ^ a) b) 1 ≡ eqb a b
power-bit zero zero = refl
power-bit zero (suc b) = rw (div-eq_of_lt (pow-lt {i = 0} {j = suc b} (omega arith))) (sym (ne_eqb 0 (suc b) (λ e. omega arith)))
power-bit (suc a) zero = rw (div-one (2 ^ suc a), pow-suc 2 a, mul-mod_left (2 ^ a) 2) (sym (ne_eqb (suc a) 0 (λ e. omega arith)))
power-bit (suc a) (suc b) = rw (pow-succ' 2 a, pow-succ' 2 b, mul-div-mul_left {m = 2} (2 ^ a) (2 ^ b) (omega arith), eqb-suc-suc a b) (power-bit a b)

-- The members of a set with one id more are its members and that id.
pub with-law : (words : List ℕ) (id i : ℕ) → id / 64 < length words → has_id (with_id words id) i ≡ (has_id words i || eqb id i)
unfolding has_id with_id
with-law words id i h = go (eqb (i / 64) (id / 64)) refl
  where
    w : ℕ
    w = get_or words (id / 64) 0

    same_bit : (b : Bool) → eqb (id % 64) (i % 64) ≡ b → i / 64 ≡ id / 64 → b ≡ eqb id i
    same_bit true e d = let m : id % 64 ≡ i % 64 = eqb-true _ _ e in sym (eq-eqb id i (omega arith))
    same_bit false e d = let m = eqb-false (id % 64) (i % 64) e in sym (ne_eqb id i (λ z. m (ap (λ (k : ℕ). k % 64) z)))

    go : (b : Bool) → eqb (i / 64) (id / 64) ≡ b → eqb (bit (get_or (set words (id / 64) (bit_or w (2 ^ (id % 64)))) (i / 64) 0) (i % 64)) 1 ≡ (eqb (bit (get_or words (i / 64) 0) (i % 64)) 1 || eqb id i)
    go true e =
        let d : i / 64 ≡ id / 64 = eqb-true _ _ e in
        rw (d, get_or-set_same words (id / 64) (bit_or w (2 ^ (id % 64))) 0 h, or-has w (2 ^ (id % 64)) (i % 64), power-bit (id % 64) (i % 64), same_bit (eqb (id % 64) (i % 64)) refl d)
    go false e =
        let n = eqb-false (i / 64) (id / 64) e in
        rw (get_or-set_other words (id / 64) (i / 64) (bit_or w (2 ^ (id % 64))) 0 n, ne_eqb id i (λ z. n (ap (λ (k : ℕ). k / 64) (sym z)))) (sym (or-false (eqb (bit (get_or words (i / 64) 0) (i % 64)) 1)))
