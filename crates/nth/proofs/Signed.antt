-- What the signed operations of `nth` come to in ℤ: i32 widened to i64, a difference, a quotient's fit, tests of bits and of sign.
use mathlib.Core.Path.{◌≡◌, refl, sym, ap, ◌∙◌, subst}
use mathlib.Core.Bool.{Bool, true, false}
use Prim.Native.Nat.{ℕ, zero, suc, ◌-◌, ◌/◌, ◌%◌, ◌^◌, ◌<◌, ◌≤◌}
use native.Mathlib.Nat.{div-le_self, lt_of_le_of_lt, mod-le, zero-mod}
use native.Mathlib.Omega.{arith}
use borrow.Author.Tests.{lt-ltb, eq-eqb, ne_eqb, ltb-true, ltb-false}
use lib.IntN.{ℤ, pos, negsuc, neg_ℤ, nat_abs, sub_ℕ, ◌-ℤ◌}
use lib.Dec.{T, eqb, ltb, leb, leb-zero, leb-suc-zero, eqb-suc-zero}
use lib.Signed.{mag, quot_z, rem_z, le_z, lt_z}
use mir.Syntax.{w32, w64}
use mir.Val.{SFits, Fits, to_z, of_z}
use mir.ValLaws.{to_z-of_z}
use Rattle.nth.specs.Nth.{nth_holds, multiple_of}

pub wide : (z : ℤ) → SFits w32 z → SFits w64 z
wide z f = omega arith

fits-index : (i : ℕ) → Fits w32 i → to_z w64 i ≡ pos i
fits-index i f = let h : ltb i (2 ^ 63) ≡ true = lt-ltb i (2 ^ 63) (omega arith) in rw h

-- |i - k| for naturals below 2^33
sub-abs : (b : Bool) (i k : ℕ) → ltb i k ≡ b → i < 4294967296 → k < 4294967296 → nat_abs (sub_ℕ i k) < 9223372036854775808
sub-abs true i k e hi hk = let l = ltb-true i k e in rw e (omega arith)
sub-abs false i k e hi hk = let l = ltb-false i k e in rw e (omega arith)

pub diff-abs : (i : ℕ) (b : ℤ) → Fits w32 i → SFits w32 b → nat_abs (pos i -ℤ b) < 9223372036854775808
diff-abs i (pos zero) fi fb = omega arith
diff-abs i (pos (suc b)) fi fb = sub-abs (ltb i (suc b)) i (suc b) refl (omega arith) (omega arith)
diff-abs i (negsuc b) fi fb = omega arith

mag-neg : (r : ℕ) {a : ℕ} → r ≤ a → mag (neg_ℤ (pos r)) ≤ a
mag-neg zero h = omega arith
mag-neg (suc r) h = omega arith

mag-quot : (z d : ℤ) → mag (quot_z z d) ≤ nat_abs z
mag-quot (pos a) (pos b) = div-le_self a b
mag-quot (pos a) (negsuc b) = mag-neg (a / suc b) (div-le_self a (suc b))
mag-quot (negsuc a) (pos b) = mag-neg (suc a / b) (div-le_self (suc a) b)
mag-quot (negsuc a) (negsuc b) = div-le_self (suc a) (suc b)

-- only the least i64 has no opposite
quot_fits : (z d : ℤ) → nat_abs z < 9223372036854775808 → SFits w64 (quot_z z d)
quot_fits z d h = record { sfits = lt_of_le_of_lt (mag-quot z d) h }

pub abs-fits : (z : ℤ) → nat_abs z < 9223372036854775808 → SFits w64 z
abs-fits (pos n) h = omega arith
abs-fits (negsuc n) h = omega arith

neg-zero : (k : ℕ) → k < 9223372036854775808 → of_z w64 (neg_ℤ (pos k)) ≡ 0 → k ≡ 0
neg-zero zero h e = refl
neg-zero (suc k) h e = absurd (omega arith)

-- the four answers of the code, at s and d themselves
step-zero : (s d : ℤ) → SFits w64 s → nat_abs d < 9223372036854775808 → of_z w64 s ≡ 0 → eqb (of_z w64 d) 0 ≡ multiple_of s d
step-zero (pos zero) (pos n) fs fd e = refl
step-zero (pos zero) (negsuc n) fs fd e = ne_eqb (18446744073709551616 - suc n) 0 (λ z. omega arith)
step-zero (pos (suc a)) d fs fd e = absurd (omega arith)
step-zero (negsuc a) d fs fd e = absurd (omega arith)

not-whole : (s d : ℤ) → (of_z w64 s ≡ 0 → ⊥) → (of_z w64 (rem_z d s) ≡ 0 → ⊥) → false ≡ multiple_of s d
not-whole (pos zero) d ns nr = absurd (ns refl)
not-whole (pos (suc a)) (pos m) ns nr = sym (ne_eqb (m % suc a) 0 nr)
not-whole (pos (suc a)) (negsuc m) ns nr = refl
not-whole (negsuc a) (pos m) ns nr = sym (ne_eqb m 0 (λ e. nr (ap (λ (k : ℕ). k % suc a) e ∙ zero-mod (suc a))))
not-whole (negsuc a) (negsuc m) ns nr = sym (ne_eqb (suc m % suc a) 0 (λ e. nr (ap (λ (k : ℕ). of_z w64 (neg_ℤ (pos k))) e)))

leb-eqb : (m : ℕ) → leb m 0 ≡ eqb m 0
leb-eqb zero = refl
leb-eqb (suc m) = leb-suc-zero m ∙ sym (eqb-suc-zero m)

falling : (s d : ℤ) → nat_abs d < 9223372036854775808 → of_z w64 (rem_z d s) ≡ 0 → lt_z s (pos 0) ≡ true → le_z d (pos 0) ≡ multiple_of s d
falling (pos a) d fd e l = absurd (omega (arith, ltb-true a 0 l))
falling (negsuc a) (pos m) fd e l = leb-eqb m
falling (negsuc a) (negsuc m) fd e l = sym (eq-eqb (suc m % suc a) 0 (neg-zero (suc m % suc a) (omega (arith, mod-le (suc m) (suc a))) e))

rising : (s d : ℤ) → (of_z w64 s ≡ 0 → ⊥) → of_z w64 (rem_z d s) ≡ 0 → lt_z s (pos 0) ≡ false → le_z (pos 0) d ≡ multiple_of s d
rising (pos zero) d ns e l = absurd (ns refl)
rising (pos (suc a)) (pos m) ns e l = leb-zero m ∙ sym (eq-eqb (m % suc a) 0 e)
rising (pos (suc a)) (negsuc m) ns e l = refl
rising (negsuc a) d ns e l = absurd (subst T l tt)

-- ---- the same in the code's own terms: a signed local holds bits, which are read back

abbrev held32 : ℤ → ℤ
held32 z = to_z w32 (of_z w32 z)

abbrev held64 : ℤ → ℤ
held64 z = to_z w64 (of_z w64 z)

abbrev difference : ℤ → ℕ → ℤ
difference offset index = to_z w64 index -ℤ held64 (held32 offset)

module _ (step offset : ℤ) (index : ℕ) (fs : SFits w32 step) (fo : SFits w32 offset) (fi : Fits w32 index) where
  pub s-is : held32 step ≡ step
  s-is = to_z-of_z w32 step fs

  ss-is : held64 (held32 step) ≡ step
  ss-is = ap held64 s-is ∙ to_z-of_z w64 step (wide step fs)

  pub d-is : difference offset index ≡ pos index -ℤ offset
  d-is = rw (fits-index index fi, to_z-of_z w32 offset fo, to_z-of_z w64 offset (wide offset fo))

  dd-is : held64 (difference offset index) ≡ pos index -ℤ offset
  dd-is = ap held64 d-is ∙ to_z-of_z w64 _ (abs-fits _ (diff-abs index offset fi fo))

  pub rem-fits : SFits w64 (quot_z (held64 (difference offset index)) (held64 (held32 step)))
  rem-fits = rw (dd-is, ss-is) (quot_fits (pos index -ℤ offset) step (diff-abs index offset fi fo))

  pub answer-zero : of_z w64 (held32 step) ≡ 0 → eqb (of_z w64 (difference offset index)) 0 ≡ nth_holds step offset (pos index)
  unfolding nth_holds
  answer-zero e = rw d-is (step-zero step (pos index -ℤ offset) (wide step fs) (diff-abs index offset fi fo) (rw s-is at e))

  module _ (ns : of_z w64 (held32 step) ≡ 0 → ⊥) where
    pub answer-part : (of_z w64 (rem_z (held64 (difference offset index)) (held64 (held32 step))) ≡ 0 → ⊥) → false ≡ nth_holds step offset (pos index)
    unfolding nth_holds
    answer-part nr = not-whole step (pos index -ℤ offset) (rw s-is at ns) (rw (dd-is, ss-is) at nr)

    module _ (e : of_z w64 (rem_z (held64 (difference offset index)) (held64 (held32 step))) ≡ 0) where
      pub answer-falls : lt_z (held64 (held32 step)) (pos 0) ≡ true → le_z (held64 (difference offset index)) (pos 0) ≡ nth_holds step offset (pos index)
      unfolding nth_holds
      answer-falls l = rw dd-is (falling step (pos index -ℤ offset) (diff-abs index offset fi fo) (rw (dd-is, ss-is) at e) (rw ss-is at l))

      pub answer-rises : lt_z (held64 (held32 step)) (pos 0) ≡ false → le_z (pos 0) (held64 (difference offset index)) ≡ nth_holds step offset (pos index)
      unfolding nth_holds
      answer-rises l = rw dd-is (rising step (pos index -ℤ offset) (rw s-is at ns) (rw (dd-is, ss-is) at e) (rw ss-is at l))
