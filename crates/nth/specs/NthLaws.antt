-- `nth_holds` decides `Nth`: proved for all integers, so at the ends of i32 too.
use Rattle.std.specs.Prelude.{◌≡◌, ◌↔◌, ℕ, zero, suc, ◌*◌, ◌/◌, ◌%◌, ℤ, pos, negsuc, neg_ℤ, ◌+ℤ◌, ◌-ℤ◌, ◌*ℤ◌, T, eqb}
use Rattle.std.proofs.Common.{sym, ap, ◌∙◌, subst, mul-zero, zero-mul, arith, eqb→eq}
use Rattle.std.proofs.Math.Nat.{div-add-mod, mul-mod_right}
use Rattle.std.proofs.Math.IntN.{+ℤ-neg_ℤ_cancel, -ℤ-+ℤ_cancel}
use Rattle.std.proofs.Math.Dec.{eqb_refl}
use Rattle.nth.specs.Nth.{Nth, nth_holds, multiple_of}

Mult : ℤ → ℤ → Type 0
Mult a d = (n : ℕ) × (a *ℤ pos n ≡ d)

eq→T : {m n : ℕ} → m ≡ n → T (eqb m n)
eq→T {m} e = subst (λ (k : ℕ). T (eqb m k)) e (eqb_refl m)

whole : (m n : ℕ) → T (eqb (m % n) 0) → n * (m / n) ≡ m
whole m n t = let e = eqb→eq (m % n) 0 t in omega (arith, div-add-mod m n)

found : (a d : ℤ) → T (multiple_of a d) → Mult a d
unfolding Mult
found (pos zero) (pos d) t = (0, ap pos (sym (eqb→eq d 0 t)))
found (pos (suc a)) (pos d) t = (d / suc a, ap pos (whole d (suc a) t))
found (pos a) (negsuc d) t = absurd t
found (negsuc a) (pos d) t = (0, ap (λ (m : ℕ). neg_ℤ (pos m)) (mul-zero (suc a)) ∙ ap pos (sym (eqb→eq d 0 t)))
found (negsuc a) (negsuc d) t = (suc d / suc a, ap (λ (m : ℕ). neg_ℤ (pos m)) (whole (suc d) (suc a) t))

below : (a m : ℕ) → m % suc a ≡ 0 → T (multiple_of (negsuc a) (neg_ℤ (pos m)))
below a zero e = tt
below a (suc m) e = eq→T e

holds : (a : ℤ) (n : ℕ) → T (multiple_of a (a *ℤ pos n))
holds (pos zero) n = eq→T (zero-mul n)
holds (pos (suc a)) n = eq→T (mul-mod_right (suc a) n)
holds (negsuc a) n = below a (suc a * n) (mul-mod_right (suc a) n)

pub nth-found : (a b i : ℤ) → T (nth_holds a b i) → Nth a b i
unfolding Nth Mult nth_holds
nth-found a b i t = let m = found a (i -ℤ b) t in (m.0, ap (λ (z : ℤ). z +ℤ b) m.1 ∙ -ℤ-+ℤ_cancel i b)

pub nth-holds : (a b i : ℤ) → Nth a b i → T (nth_holds a b i)
unfolding Nth nth_holds
nth-holds a b i p = subst (λ (z : ℤ). T (multiple_of a z)) (sym (+ℤ-neg_ℤ_cancel (a *ℤ pos p.0) b) ∙ ap (λ (z : ℤ). z -ℤ b) p.1) (holds a p.0)

-- the law that a reader wants
pub nth-law : (a b i : ℤ) → T (nth_holds a b i) ↔ Nth a b i
nth-law a b i = (nth-found a b i, nth-holds a b i)
