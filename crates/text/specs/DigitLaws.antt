-- What is printed is the number: its digits denote it, and no zero stands in front.
use Rattle.std.specs.Prelude.{Bool, true, false, cond, List, [], ◌∷◌, ◌++◌, ◌≡◌, refl, ℕ, zero, suc, ◌+◌, ◌-◌, ◌*◌, ◌/◌, ◌%◌, ◌^◌, ◌<◌, ltb, get_or}
use Rattle.std.proofs.Common.{pow-suc, arith, ltb-true, ltb-false}
use Rattle.text.specs.Text.{digits, decimal}

-- The number that digits denote, after what stands before them.
unfoldable pub value : ℕ → List ℕ → ℕ
value before [] = before
value before (d ∷ ds) = value (before * 10 + (d - 48)) ds

value-last : (before d : ℕ) (xs : List ℕ) → value before (xs ++ (d ∷ [])) ≡ value before xs * 10 + (d - 48)
unfolding value
value-last before d [] = refl
value-last before d (x ∷ xs) = value-last (before * 10 + (x - 48)) d xs

digits_value : (k n : ℕ) → n < 10 ^ k → value 0 (digits k n) ≡ n
unfolding value digits
digits_value zero n h = omega arith
digits_value (suc k) n h = by (ltb n 10) refl (digits_value k (n / 10))
  where
    by : (b : Bool) → ltb n 10 ≡ b → (n / 10 < 10 ^ k → value 0 (digits k (n / 10)) ≡ n / 10) → value 0 (cond b ((48 + n % 10) ∷ []) (digits k (n / 10) ++ ((48 + n % 10) ∷ []))) ≡ n
    by true e ih = let q : n < 10 = ltb-true n 10 e in omega arith
    by false e ih = let p = pow-suc 10 k in let i = ih (omega arith) in rw (value-last 0 (48 + n % 10) (digits k (n / 10))) (rw i (omega arith))

-- A number of 64 bits in decimal denotes itself.
pub decimal-value : (n : ℕ) → n < 2 ^ 64 → value 0 (decimal n) ≡ n
unfolding decimal
decimal-value n h = digits_value 20 n (omega arith)

abbrev some : List ℕ → Bool
some [] = false
some (x ∷ xs) = true

some-last : (xs : List ℕ) (d : ℕ) → some (xs ++ (d ∷ [])) ≡ true
some-last [] d = refl
some-last (x ∷ xs) d = refl

digits-some : (k n : ℕ) → some (digits (suc k) n) ≡ true
unfolding digits
digits-some k n = by (ltb n 10)
  where
    by : (b : Bool) → some (cond b ((48 + n % 10) ∷ []) (digits k (n / 10) ++ ((48 + n % 10) ∷ []))) ≡ true
    by true = refl
    by false = some-last (digits k (n / 10)) (48 + n % 10)

first_of : (xs ys : List ℕ) → some xs ≡ true → get_or (xs ++ ys) 0 0 ≡ get_or xs 0 0
first_of [] ys e = let z : ◌≡◌ {A = ℕ} 0 1 = cc in absurd (omega arith)
first_of (x ∷ xs) ys e = refl

digits-first : (k n : ℕ) → n < 10 ^ k → get_or (digits k n) 0 0 ≡ 48 → n ≡ 0
unfolding digits
digits-first zero n h e = omega arith
digits-first (suc zero) n h e = by (ltb n 10) refl e
  where
    by : (b : Bool) → ltb n 10 ≡ b → get_or (cond b ((48 + n % 10) ∷ []) (digits 0 (n / 10) ++ ((48 + n % 10) ∷ []))) 0 0 ≡ 48 → n ≡ 0
    by true f e = let q = ltb-true n 10 f in omega arith
    by false f e = let q = ltb-false n 10 f in omega arith
digits-first (suc (suc k)) n h e = by (ltb n 10) refl e (digits-first (suc k) (n / 10))
  where
    by : (b : Bool) → ltb n 10 ≡ b → get_or (cond b ((48 + n % 10) ∷ []) (digits (suc k) (n / 10) ++ ((48 + n % 10) ∷ []))) 0 0 ≡ 48 → (n / 10 < 10 ^ suc k → get_or (digits (suc k) (n / 10)) 0 0 ≡ 48 → n / 10 ≡ 0) → n ≡ 0
    by true f e ih = let q = ltb-true n 10 f in omega arith
    by false f e ih =
        let q = ltb-false n 10 f in
        let p = pow-suc 10 (suc k) in
        let i = ih (omega arith) (rw (first_of (digits (suc k) (n / 10)) ((48 + n % 10) ∷ []) (digits-some k (n / 10))) at e) in
        omega arith

-- Only 0 begins with the digit 0.
pub decimal-first : (n : ℕ) → n < 2 ^ 64 → get_or (decimal n) 0 0 ≡ 48 → n ≡ 0
unfolding decimal
decimal-first n h e = digits-first 20 n (omega arith) e
