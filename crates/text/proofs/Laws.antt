-- Text put piece by piece.
use mathlib.Core.List.{List, [], ◌∷◌, ◌++◌}
use mathlib.Core.Path.{◌≡◌, refl, ◌∙◌}
use Prim.Native.Nat.{ℕ, zero, suc, ◌+◌, ◌-◌, ◌/◌, ◌%◌, ◌≤◌, ◌<◌}
use native.Mathlib.Nat.{add-zero, add_assoc}
use native.Mathlib.Numerals.{sub-one, add-one}
use native.Mathlib.Omega.{arith}
use borrow.Author.Tests.{lt-ltb, le-ltb}
use lib.ListN.{length, get_or, set, drop, length-append, drop_of_length-le}
use lib.Seq.{drop-cons}
use Rattle.cells.specs.Stretches.{written}
use Rattle.text.specs.Text.{Wrote, digits, decimal}

-- ---- one text after another

pub written-append : (o : List ℕ) (at : ℕ) (xs ys : List ℕ) → written (written o at xs) (at + length xs) ys ≡ written o at (xs ++ ys)
unfolding written
written-append o at [] ys = rw (add-zero at)
written-append o at (x ∷ xs) ys = let e : at + suc (length xs) ≡ at + 1 + length xs = omega arith in rw e (written-append (set o at x) (at + 1) xs ys)

pub then : (o o₁ o₂ xs ys : List ℕ) (at m r : ℕ) → m ≡ at + length xs → o₁ ≡ written o at xs → r ≡ m + length ys → o₂ ≡ written o₁ m ys → Wrote o at (xs ++ ys) r o₂
then o o₁ o₂ xs ys at m r a b c d = (simp length-append (omega arith), d ∙ (rw (b, a) (written-append o at xs ys)))

pub text-more : (o o₁ s : List ℕ) (at i : ℕ) → i < length s → o₁ ≡ set o (at + i) (get_or s i 0) → written o (at + i) (drop i s) ≡ written o₁ (at + (i + 1)) (drop (i + 1) s)
unfolding written
text-more o o₁ s at i h e = rw (← add_assoc, add-one i, drop-cons s i 0 h, e)

pub text-all : (o s : List ℕ) (at i : ℕ) → length s ≤ i → written o (at + i) (drop i s) ≡ o
unfolding written
text-all o s at i h = rw (drop_of_length-le s h)

-- ---- digits

digits-none : (k n : ℕ) → k ≡ 0 → digits k n ≡ []
unfolding digits
digits-none zero n e = refl
digits-none (suc k) n e = absurd (omega arith)

digits_last : (k n : ℕ) → (k ≡ 0 → ⊥) → n < 10 → digits k n ≡ (48 + n % 10) ∷ []
unfolding digits
digits_last zero n e h = absurd (e refl)
digits_last (suc k) n e h = simp (lt-ltb _ _ h)

digits_more : (k n : ℕ) → (k ≡ 0 → ⊥) → 10 ≤ n → digits k n ≡ digits (k - 1) (n / 10) ++ ((48 + n % 10) ∷ [])
unfolding digits
digits_more zero n e h = absurd (e refl)
digits_more (suc k) n e h = rw sub-one (simp (le-ltb _ _ h))

pub put-none : (o : List ℕ) (at k n : ℕ) → k ≡ 0 → Wrote o at (digits k n) at o × (at ≤ at + k)
unfolding written
put-none o at k n e = rw (digits-none k n e) ((omega arith, refl), omega arith)

pub put_last : (o o₁ : List ℕ) (at k n : ℕ) → (k ≡ 0 → ⊥) → n < 10 → o₁ ≡ set o at (48 + n % 10) → Wrote o at (digits k n) (at + 1) o₁ × (at + 1 ≤ at + k)
unfolding written
put_last o o₁ at k n e h f = rw (digits_last k n e h) ((omega arith, f), omega arith)

-- the last digit after those before it
pub put-more : (o o₁ o₂ : List ℕ) (at k n next : ℕ) → (k ≡ 0 → ⊥) → 10 ≤ n → next ≡ at + length (digits (k - 1) (n / 10)) → o₁ ≡ written o at (digits (k - 1) (n / 10)) → next ≤ at + (k - 1) → o₂ ≡ set o₁ next (48 + n % 10)
    → Wrote o at (digits k n) (next + 1) o₂ × (next + 1 ≤ at + k)
unfolding written
put-more o o₁ o₂ at k n next e h f g l q =
    rw (digits_more k n e h) (then o o₁ o₂ (digits (k - 1) (n / 10)) ((48 + n % 10) ∷ []) at next (next + 1) f g refl q, omega arith)

pub put-twenty : (o o₁ : List ℕ) (at n r : ℕ) → Wrote o at (digits 20 n) r o₁ × (r ≤ at + 20) → Wrote o at (decimal n) r o₁ × (r ≤ at + 20)
unfolding decimal
put-twenty o o₁ at n r w = w
