-- A list of numbers, listed in rising order, each once.
use Rattle.std.specs.Prelude.{◌≡◌, refl, ◌↔◌, ◌⊎◌, List, [], ◌∷◌, Bool, true, false, cond, eqb, ltb, ℕ, ◌<◌}
use Rattle.std.proofs.Common.{◌∙◌, inl, inr, ltb-true, ltb-false, eqb-true, arith}
use Rattle.std.proofs.lemmas.Bool.{eqb-false}
use Rattle.meaning.specs.Lists.{◌∈◌, here, there, Rising}

abbrev pub insert : ℕ → List ℕ → List ℕ
insert x [] = x ∷ []
insert x (y ∷ ys) = cond (ltb x y) (x ∷ y ∷ ys) (cond (eqb x y) (y ∷ ys) (y ∷ insert x ys))

abbrev pub sorted : List ℕ → List ℕ
sorted [] = []
sorted (x ∷ xs) = insert x (sorted xs)

mem-insert : (x : ℕ) (ys : List ℕ) (z : ℕ) → z ∈ insert x ys → (z ≡ x) ⊎ (z ∈ ys)
mem-insert x [] z (here e) = inl e
mem-insert x (y ∷ ys) z h = go (ltb x y) (eqb x y) h (mem-insert x ys z)
  where
    go : (a b : Bool) → z ∈ cond a (x ∷ y ∷ ys) (cond b (y ∷ ys) (y ∷ insert x ys)) → (z ∈ insert x ys → (z ≡ x) ⊎ (z ∈ ys)) → (z ≡ x) ⊎ (z ∈ (y ∷ ys))
    go true b (here e) ih = inl e
    go true b (there h) ih = inr h
    go false true h ih = inr h
    go false false (here e) ih = inr (here e)
    go false false (there h) ih = later (ih h)
      where
        later : (z ≡ x) ⊎ (z ∈ ys) → (z ≡ x) ⊎ (z ∈ (y ∷ ys))
        later (inl e) = inl e
        later (inr h) = inr (there h)
mem-insert x [] z (there x5) = elim x5 [ ]

insert-mem : (x : ℕ) (ys : List ℕ) (z : ℕ) → (z ≡ x) ⊎ (z ∈ ys) → z ∈ insert x ys
insert-mem x [] z (inl e) = here e
insert-mem x (y ∷ ys) z h = go (ltb x y) (eqb x y) refl h (insert-mem x ys z)
  where
    go : (a b : Bool) → eqb x y ≡ b → (z ≡ x) ⊎ (z ∈ (y ∷ ys)) → ((z ≡ x) ⊎ (z ∈ ys) → z ∈ insert x ys) → z ∈ cond a (x ∷ y ∷ ys) (cond b (y ∷ ys) (y ∷ insert x ys))
    go true b q (inl e) ih = here e
    go true b q (inr h) ih = there h
    go false true q (inl e) ih = let p = eqb-true x y q in here (e ∙ p)
    go false true q (inr h) ih = h
    go false false q (inl e) ih = there (ih (inl e))
    go false false q (inr (here e)) ih = here e
    go false false q (inr (there h)) ih = there (ih (inr h))
insert-mem x [] z (inr x3) = elim x3 [ ]

insert-rising : (x : ℕ) (ys : List ℕ) → Rising ys → Rising (insert x ys)
insert-rising x [] r = ((λ y h. elim h [ ]), tt)
insert-rising x (y ∷ ys) (u, r) = go (ltb x y) refl (eqb x y) refl (insert-rising x ys r)
  where
    under : x < y → (z : ℕ) → z ∈ (y ∷ ys) → x < z
    under h z (here e) = rw e h
    under h z (there m) = let k = u z m in omega arith

    over : y < x → (z : ℕ) → (z ≡ x) ⊎ (z ∈ ys) → y < z
    over h z (inl e) = rw e h
    over h z (inr m) = u z m

    go : (a : Bool) → ltb x y ≡ a → (b : Bool) → eqb x y ≡ b → Rising (insert x ys) → Rising (cond a (x ∷ y ∷ ys) (cond b (y ∷ ys) (y ∷ insert x ys)))
    go true e b q ih = (under (ltb-true x y e), (u, r))
    go false e true q ih = (u, r)
    go false e false q ih = let k = ltb-false x y e in let n = eqb-false x y q in ((λ z m. over (omega (arith, k, n)) z (mem-insert x ys z m)), ih)

pub sorted-rising : (xs : List ℕ) → Rising (sorted xs)
sorted-rising [] = tt
sorted-rising (x ∷ xs) = insert-rising x (sorted xs) (sorted-rising xs)

pub sorted-mem : (xs : List ℕ) (z : ℕ) → (z ∈ sorted xs) ↔ (z ∈ xs)
sorted-mem [] z = ((λ h. h), (λ h. h))
sorted-mem (x ∷ xs) z = ((λ h. to (mem-insert x (sorted xs) z h) (sorted-mem xs z).0), (λ h. insert-mem x (sorted xs) z (from h (sorted-mem xs z).1)))
  where
    to : (z ≡ x) ⊎ (z ∈ sorted xs) → (z ∈ sorted xs → z ∈ xs) → z ∈ (x ∷ xs)
    to (inl e) ih = here e
    to (inr h) ih = there (ih h)

    from : z ∈ (x ∷ xs) → (z ∈ xs → z ∈ sorted xs) → (z ≡ x) ⊎ (z ∈ sorted xs)
    from (here e) ih = inl e
    from (there h) ih = inr (ih h)
