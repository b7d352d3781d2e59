-- Runs of stores: one after another, and two that do not meet.
use Prim.Native.Nat.{ℕ, suc, ◌+◌, ◌≤◌, ◌<◌}
use mathlib.Core.Path.{◌≡◌, refl, sym, ap, ◌∙◌}
use mathlib.Core.List.{List, [], ◌∷◌, ◌++◌}
use native.Mathlib.Nat.{add-zero, add-suc, suc-add}
use native.Mathlib.Omega.{arith}
use lib.ListN.{length, set, length-append}
use lib.Seq.{sets, set_comm}

module _ {A : Type 0} where
  pub sets-append : (l : List A) (i : ℕ) (xs ys : List A) → sets l i (xs ++ ys) ≡ sets (sets l i xs) (i + length xs) ys
  sets-append l i [] ys = ap (λ (k : ℕ). sets l k ys) (sym (add-zero i))
  sets-append l i (x ∷ xs) ys =
      sets-append (set l i x) (suc i) xs ys ∙ ap (λ (k : ℕ). sets (sets (set l i x) (suc i) xs) k ys) (suc-add i (length xs) ∙ sym (add-suc i (length xs)))

  set_past : (l : List A) (i j : ℕ) (a : A) (ys : List A) → i < j → set (sets l j ys) i a ≡ sets (set l i a) j ys
  set_past l i j a [] h = refl
  set_past l i j a (y ∷ ys) h = set_past (set l j y) i (suc j) a ys (omega arith) ∙ ap (λ (m : List A). sets m (suc j) ys) (set_comm l j i y a (λ e. omega arith))

  pub sets-swap : (l : List A) (i j : ℕ) (xs ys : List A) → i + length xs ≤ j → sets (sets l j ys) i xs ≡ sets (sets l i xs) j ys
  sets-swap l i j [] ys h = refl
  sets-swap l i j (x ∷ xs) ys h = ap (λ (m : List A). sets m (suc i) xs) (set_past l i j x ys (omega arith)) ∙ sets-swap (set l i x) (suc i) j xs ys (omega arith)

  -- what a node's blocks, its row, its siblings' rows and what is below these leave, in two runs
  pub gather : (l : List A) (a b c d e : ℕ) (x y r g z : List A) → c ≡ b + length x → e ≡ c + length y → d ≡ a + length r → a + length r + length g ≤ b →
      sets (sets (sets (sets (sets l b x) c y) a r) d g) e z ≡ sets (sets l a (r ++ g)) b (x ++ (y ++ z))
  gather l a b c d e x y r g z ec ee ed h =
      let w : a + length (r ++ g) ≤ b = rw length-append (omega arith) in
      let w' : a + length (r ++ g) ≤ c = omega arith in
      rw (ee, ed) (ap (λ (m : List A). sets m (c + length y) z)
      (sym (sets-append (sets (sets l b x) c y) a r g) ∙ sets-swap (sets l b x) a c (r ++ g) y w' ∙ ap (λ (m : List A). sets m c y) (sets-swap l a b (r ++ g) x w))
      ∙ sym (sets-append (sets (sets l a (r ++ g)) b x) c y z)
      ∙ ap (λ (k : ℕ). sets (sets (sets l a (r ++ g)) b x) k (y ++ z)) ec
      ∙ sym (sets-append (sets l a (r ++ g)) b x (y ++ z)))
