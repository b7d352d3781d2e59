-- `equal_bytes` decides equality of byte strings, `same_bytes` equality under case rules.
use Rattle.std.specs.Prelude.{◌≡◌, refl, ◌↔◌, ◌⊎◌, Bool, true, false, ◌&&◌, ◌||◌, List, [], ◌∷◌, ℕ, ◌+◌, ◌<◌, ◌≤◌, length, get_or, drop, T, eqb}
use Rattle.std.proofs.Common.{arith, sym, ap, ◌∙◌, subst, inl, inr, ⊎_elim, add-one, drop_of_length-le, drop-cons, eq-eqb, eqb→eq}
use Rattle.std.specs.List.{list_all, zip}
use Rattle.std.proofs.lemmas.List.{length-map}
use Rattle.std.proofs.Math.Facts.{and_yes, yes_and}
use Rattle.letters.specs.Bytes.{fold_byte, equal_bytes, fold, same_bytes}

-- what `&&` and `||` say, and a choice between things that are each the same
pub and-law : (a b : Bool) → T (a && b) ↔ (T a × T b)
and-law a b = (and_yes a b, λ p. yes_and a b p.0 p.1)

pub or-law : (a b : Bool) → T (a || b) ↔ (T a ⊎ T b)
or-law true b = (inl, λ s. tt)
or-law false b = (inr, ⊎_elim (λ t. absurd t) (λ t. t))

pub either : {A B C D : Type 0} → A ↔ C → B ↔ D → (A ⊎ B) ↔ (C ⊎ D)
either p q = (⊎_elim (λ a. inl (p.0 a)) (λ b. inr (q.0 b)), ⊎_elim (λ c. inl (p.1 c)) (λ d. inr (q.1 d)))

pub is_false : (b : Bool) → (T b → ⊥) → b ≡ false
is_false true n = absurd (n tt)
is_false false n = refl

pub holds : {b : Bool} → b ≡ true → T b
holds e = subst T (sym e) tt

pub equal→eq : (a b : List ℕ) → T (equal_bytes a b) → a ≡ b
equal→eq [] [] t = refl
equal→eq [] (y ∷ ys) t = absurd t
equal→eq (x ∷ xs) [] t = absurd t
equal→eq (x ∷ xs) (y ∷ ys) t =
    let (e, r) = and_yes (eqb x y) (equal_bytes xs ys) t in
    let p = eqb→eq x y e in
    let q = equal→eq xs ys r in
    cc

pub equal-refl : (a : List ℕ) → equal_bytes a a ≡ true
equal-refl [] = refl
equal-refl (x ∷ xs) = rw (eq-eqb x x refl) (equal-refl xs)

pub equal-ne : (a b : List ℕ) → (a ≡ b → ⊥) → equal_bytes a b ≡ false
equal-ne a b n = is_false (equal_bytes a b) (λ t. n (equal→eq a b t))

pub fold-false : (w : List ℕ) → fold false w ≡ w
fold-false [] = refl
fold-false (x ∷ w) = ap (λ (l : List ℕ). x ∷ l) (fold-false w)

-- the law that a reader wants
pub same-law : (f g : Bool) (a b : List ℕ) → T (same_bytes f g a b) ↔ (fold f a ≡ fold g b)
unfolding same_bytes
same-law f g a b = (equal→eq (fold f a) (fold g b), λ e. rw e (holds (equal-refl (fold g b))))

-- the same where the second is compared as it is
pub exact-law : (f : Bool) (a b : List ℕ) → T (same_bytes f false a b) ↔ (fold f a ≡ b)
exact-law f a b = rw (fold-false b) at (same-law f false a b)

pub same-long : (f g : Bool) (a b : List ℕ) → (length a ≡ length b → ⊥) → same_bytes f g a b ≡ false
unfolding same_bytes
same-long f g a b n = equal-ne (fold f a) (fold g b) (λ e. n (sym (length-map a (fold_byte f)) ∙ ap length e ∙ length-map b (fold_byte g)))

-- one place more
pub same_step : (f g : Bool) (a b : List ℕ) (i : ℕ) → i < length a → i < length b → same_bytes f g (drop i a) (drop i b) ≡ (eqb (fold_byte f (get_or a i 0)) (fold_byte g (get_or b i 0)) && same_bytes f g (drop (i + 1) a) (drop (i + 1) b))
unfolding same_bytes
same_step f g a b i ha hb = rw (add-one, drop-cons a i 0 ha, drop-cons b i 0 hb)

pub same_end : (f g : Bool) (a b : List ℕ) (i : ℕ) → length a ≤ i → length b ≤ i → same_bytes f g (drop i a) (drop i b) ≡ true
unfolding same_bytes
same_end f g a b i ha hb = rw (drop_of_length-le a ha, drop_of_length-le b hb)

-- two strings of one length, compared pair by pair
pub same-zip : (f g : Bool) (a b : List ℕ) → length a ≡ length b → list_all (λ p. eqb (fold_byte f p.0) (fold_byte g p.1)) (zip a b) ≡ same_bytes f g a b
unfolding same_bytes
same-zip f g [] [] e = refl
same-zip f g [] (y ∷ b) e = absurd (omega arith)
same-zip f g (x ∷ a) [] e = absurd (omega arith)
same-zip f g (x ∷ a) (y ∷ b) e = rw (same-zip f g a b (omega arith))
