-- What holds of members, of `keep`, `gather` and pairs, and of lists of numbers as sets.
use Rattle.std.specs.Prelude.{◌≡◌, refl, ◌↔◌, ◌⊎◌, Bool, true, false, not, ◌&&◌, ◌||◌, T, eqb, length, take, ℕ, zero, suc, ◌<◌, ◌≤◌}
use Rattle.std.proofs.Common.{sym, ap, ap₂, inl, inr, ⊎_elim, T_not, eqb→eq, eq-eqb, arith}
use mathlib.Core.List.{List, [], ◌∷◌, ◌++◌, map, reverse, reverse_aux}
use Rattle.std.proofs.Math.Dec.{not_T, eqb_refl}
use Rattle.meaning.specs.Lists.{◌∈◌, here, there, Distinct, put_if, keep, some, every, gather, Pairs, no_pair, pair, has, minus, Rising}

module _ {A : Type 0} where
  pub some-mem : (p : A → Bool) (xs : List A) → T (some p xs) → (x : A) × (x ∈ xs) × T (p x)
  some-mem p (x ∷ xs) t = go (p x) refl t (some-mem p xs)
    where
      go : (b : Bool) → p x ≡ b → T (b || some p xs) → (T (some p xs) → (z : A) × (z ∈ xs) × T (p z)) → (z : A) × (z ∈ (x ∷ xs)) × T (p z)
      go true e u ih = (x, here refl, rw e tt)
      go false e u ih = let (z, m, q) = ih u in (z, there m, q)
  some-mem p [] t = elim t [ ]

  pub mem-some : (p : A → Bool) (xs : List A) {x : A} → x ∈ xs → T (p x) → T (some p xs)
  mem-some p (y ∷ ys) (here h) t = go (p y) (rw h at t)
    where
      go : (b : Bool) → T b → T (b || some p ys)
      go true u = tt
      go false u = absurd u
  mem-some p (y ∷ ys) (there h) t = go (p y) (mem-some p ys h t)
    where
      go : (b : Bool) → T (some p ys) → T (b || some p ys)
      go true u = tt
      go false u = u
  mem-some p [] x4 t = elim x4 [ ]

  pub ∈-left : {x : A} (xs ys : List A) → x ∈ xs → x ∈ (xs ++ ys)
  ∈-left (y ∷ xs) ys (here e) = here e
  ∈-left (y ∷ xs) ys (there m) = there (∈-left xs ys m)
  ∈-left [] ys x'' = elim x'' [ ]

  pub ∈-right : {x : A} (xs : List A) {ys : List A} → x ∈ ys → x ∈ (xs ++ ys)
  ∈-right [] m = m
  ∈-right (y ∷ xs) m = there (∈-right xs m)

  pub ∈-split : {x : A} (xs : List A) {ys : List A} → x ∈ (xs ++ ys) → (x ∈ xs) ⊎ (x ∈ ys)
  ∈-split [] m = inr m
  ∈-split (y ∷ xs) (here e) = inl (here e)
  ∈-split {x} (y ∷ xs) {ys} (there m) = go (∈-split xs m)
    where
      go : (x ∈ xs) ⊎ (x ∈ ys) → (x ∈ (y ∷ xs)) ⊎ (x ∈ ys)
      go (inl h) = inl (there h)
      go (inr h) = inr h

  pub keep-mem : (p : A → Bool) (xs : List A) {x : A} → x ∈ keep p xs → (x ∈ xs) × T (p x)
  keep-mem p (y ∷ ys) {x} m = go (p y) refl m (keep-mem p ys)
    where
      go : (b : Bool) → p y ≡ b → x ∈ put_if b y (keep p ys) → (x ∈ keep p ys → (x ∈ ys) × T (p x)) → (x ∈ (y ∷ ys)) × T (p x)
      go true e (here h) ih = (here h, rw (h, e) tt)
      go true e (there h) ih = (there (ih h).0, (ih h).1)
      go false e h ih = (there (ih h).0, (ih h).1)
  keep-mem p [] {x = x} m = elim m [ ]

  pub mem-keep : (p : A → Bool) (xs : List A) {x : A} → x ∈ xs → T (p x) → x ∈ keep p xs
  mem-keep p (y ∷ ys) {x} (here h) t = go (p y) (rw h at t)
    where
      go : (b : Bool) → T b → x ∈ put_if b y (keep p ys)
      go true u = here h
      go false u = absurd u
  mem-keep p (y ∷ ys) {x} (there h) t = go (p y) (mem-keep p ys h t)
    where
      go : (b : Bool) → x ∈ keep p ys → x ∈ put_if b y (keep p ys)
      go true m = there m
      go false m = m
  mem-keep p [] {x = x} x4 t = elim x4 [ ]

  -- Tests that agree on the members keep the same, and some member passes the one exactly when some passes the other.
  pub keep_same : (p q : A → Bool) (xs : List A) → ((x : A) → x ∈ xs → p x ≡ q x) → keep p xs ≡ keep q xs
  keep_same p q [] h = refl
  keep_same p q (x ∷ xs) h = ap₂ (λ b ys. put_if b x ys) (h x (here refl)) (keep_same p q xs (λ y m. h y (there m)))

  pub some_same : (p q : A → Bool) (xs : List A) → ((x : A) → x ∈ xs → p x ≡ q x) → some p xs ≡ some q xs
  some_same p q [] h = refl
  some_same p q (x ∷ xs) h = ap₂ (λ b c. b || c) (h x (here refl)) (some_same p q xs (λ y m. h y (there m)))

  -- Every member of two lists, one after the other.
  pub every-cat : (p : A → Bool) (xs ys : List A) → every p (xs ++ ys) ≡ every p xs && every p ys
  every-cat p [] ys = refl
  every-cat p (x ∷ xs) ys = go (p x) (every-cat p xs ys)
    where
      go : (b : Bool) → every p (xs ++ ys) ≡ every p xs && every p ys → b && every p (xs ++ ys) ≡ (b && every p xs) && every p ys
      go true e = e
      go false e = refl

  pub distinct-keep : (p : A → Bool) (xs : List A) → Distinct xs → Distinct (keep p xs)
  distinct-keep p [] d = tt
  distinct-keep p (x ∷ xs) (n, d) = go (p x) (distinct-keep p xs d)
    where
      go : (b : Bool) → Distinct (keep p xs) → Distinct (put_if b x (keep p xs))
      go true h = ((λ m. n (keep-mem p xs m).0), h)
      go false h = h

  pub distinct-cat : (xs ys : List A) → Distinct xs → Distinct ys → ((x : A) → x ∈ xs → x ∈ ys → ⊥) → Distinct (xs ++ ys)
  distinct-cat [] ys d e f = e
  distinct-cat (x ∷ xs) ys (n, d) e f = ((λ m. ⊎_elim n (f x (here refl)) (∈-split xs m)), distinct-cat xs ys d e (λ z a b. f z (there a) b))

module _ {A B : Type 0} where
  pub every_map : (p : B → Bool) (f : A → B) (xs : List A) → every p (map f xs) ≡ every (λ x. p (f x)) xs
  every_map p f [] = refl
  every_map p f (x ∷ xs) = ap (λ b. p (f x) && b) (every_map p f xs)

module _ {A B : Type 0} (f : A → List B) where
  pub gather-mem : (xs : List A) {y : B} → y ∈ gather f xs → (x : A) × (x ∈ xs) × (y ∈ f x)
  gather-mem (x ∷ xs) {y} m = go (∈-split (f x) m) (gather-mem xs)
    where
      go : (y ∈ f x) ⊎ (y ∈ gather f xs) → (y ∈ gather f xs → (z : A) × (z ∈ xs) × (y ∈ f z)) → (z : A) × (z ∈ (x ∷ xs)) × (y ∈ f z)
      go (inl h) ih = (x, here refl, h)
      go (inr h) ih = let (z, m, n) = ih h in (z, there m, n)
  gather-mem [] {y = y} m = elim m [ ]

  pub mem-gather : (xs : List A) {x : A} {y : B} → x ∈ xs → y ∈ f x → y ∈ gather f xs
  mem-gather (z ∷ zs) (here h) n = ∈-left (f z) (gather f zs) (rw h at n)
  mem-gather (z ∷ zs) (there h) n = ∈-right (f z) (mem-gather zs h n)
  mem-gather [] {y = y} x4 n = elim x4 [ ]

  pub distinct-gather : (xs : List A) → Distinct xs → ((x : A) → x ∈ xs → Distinct (f x)) → ((x y : A) (b : B) → x ∈ xs → y ∈ xs → b ∈ f x → b ∈ f y → x ≡ y) → Distinct (gather f xs)
  distinct-gather [] d g h = tt
  distinct-gather (x ∷ xs) (n, d) g h = distinct-cat (f x) (gather f xs) (g x (here refl)) (distinct-gather xs d (λ z m. g z (there m)) (λ y z b m k. h y z b (there m) (there k)))
      (λ b p q. let (z, m, k) = gather-mem xs q in n (rw (h x z b (here refl) (there m) p k) m))

-- ---- Pairs.
module _ {A B : Type 0} {R : A → B → Type 0} where
  pub pair-right : {xs : List A} {ys : List B} → Pairs R xs ys → (a : A) → a ∈ xs → (b : B) × (b ∈ ys) × R a b
  pair-right (pair {b = b} r p) a (here e) = (b, here refl, rw e r)
  pair-right (pair r p) a (there h) = let (b, m, q) = pair-right p a h in (b, there m, q)
  pair-right no_pair a x4 = elim x4 [ ]

  pub pair_left : {xs : List A} {ys : List B} → Pairs R xs ys → (b : B) → b ∈ ys → (a : A) × (a ∈ xs) × R a b
  pair_left (pair {a = a} r p) b (here e) = (a, here refl, rw e r)
  pair_left (pair r p) b (there h) = let (a, m, q) = pair_left p b h in (a, there m, q)
  pair_left no_pair b x4 = elim x4 [ ]

  pub pairs-map : (g : B → A) → ((b : B) → R (g b) b) → (ys : List B) → Pairs R (map g ys) ys
  pairs-map g h [] = no_pair
  pairs-map g h (y ∷ ys) = pair (h y) (pairs-map g h ys)

  pub pairs-take : (n : ℕ) {xs : List A} {ys : List B} → Pairs R xs ys → Pairs R (take n xs) (take n ys)
  pairs-take zero p = no_pair
  pairs-take (suc n) no_pair = no_pair
  pairs-take (suc n) (pair r p) = pair r (pairs-take n p)

  pairs_onto : {xs us : List A} {ys vs : List B} → Pairs R xs ys → Pairs R us vs → Pairs R (reverse_aux xs us) (reverse_aux ys vs)
  pairs_onto no_pair q = q
  pairs_onto (pair r p) q = pairs_onto p (pair r q)

  pub pairs-reverse : {xs : List A} {ys : List B} → Pairs R xs ys → Pairs R (reverse xs) (reverse ys)
  pairs-reverse p = pairs_onto p no_pair

-- ---- Numbers.
pub has-mem : (x : ℕ) (ys : List ℕ) → T (has x ys) → x ∈ ys
has-mem x ys t = let (y, m, e) = some-mem (eqb x) ys t in rw (eqb→eq x y e) m

pub mem-has : (x : ℕ) (ys : List ℕ) → x ∈ ys → T (has x ys)
mem-has x ys m = mem-some (eqb x) ys m (eqb_refl x)

-- The old ones, then the new ones that are not among them.
abbrev pub join : List ℕ → List ℕ → List ℕ
join new old = old ++ minus new old

pub join-mem : (new old : List ℕ) {x : ℕ} → x ∈ join new old → (x ∈ new) ⊎ (x ∈ old)
join-mem new old {x} m = go (∈-split old m)
  where
    go : (x ∈ old) ⊎ (x ∈ minus new old) → (x ∈ new) ⊎ (x ∈ old)
    go (inl h) = inr h
    go (inr h) = inl (keep-mem (λ z. not (has z old)) new h).0

pub mem-join-old : (new old : List ℕ) {x : ℕ} → x ∈ old → x ∈ join new old
mem-join-old new old m = ∈-left old (minus new old) m

pub mem-join-new : (new old : List ℕ) {x : ℕ} → x ∈ new → x ∈ join new old
mem-join-new new old {x} m = go (has x old) refl
  where
    go : (b : Bool) → has x old ≡ b → x ∈ join new old
    go true e = ∈-left old (minus new old) (has-mem x old (rw e tt))
    go false e = ∈-right old (mem-keep (λ z. not (has z old)) new m (rw e tt))

pub distinct-join : (new old : List ℕ) → Distinct new → Distinct old → Distinct (join new old)
distinct-join new old d e = distinct-cat old (minus new old) e (distinct-keep (λ x. not (has x old)) new d)
    (λ x b a. T_not (has x old) (keep-mem (λ z. not (has z old)) new a).1 (mem-has x old b))

-- ---- How many members there are.
pub length-keep : {A : Type 0} (p : A → Bool) (xs : List A) → length (keep p xs) ≤ length xs
length-keep p [] = omega arith
length-keep p (x ∷ xs) = go (p x) (length-keep p xs)
  where
    go : (b : Bool) → length (keep p xs) ≤ length xs → length (put_if b x (keep p xs)) ≤ suc (length xs)
    go true h = omega arith
    go false h = omega arith

abbrev without : ℕ → List ℕ → List ℕ
without x ys = keep (λ y. not (eqb x y)) ys

length_without : (x : ℕ) (ys : List ℕ) → x ∈ ys → length (without x ys) < length ys
length_without x (y ∷ ys) (here e) = let k = length-keep (λ y. not (eqb x y)) ys in rw (eq-eqb x y e) (omega arith)
length_without x (y ∷ ys) (there m) = go (not (eqb x y)) (length_without x ys m)
  where
    go : (b : Bool) → length (without x ys) < length ys → length (put_if b y (without x ys)) < suc (length ys)
    go true h = omega arith
    go false h = omega arith
length_without x [] x'' = elim x'' [ ]

-- A list without repetition whose members another has is no longer than that.
pub length-within : (xs ys : List ℕ) → Distinct xs → ((x : ℕ) → x ∈ xs → x ∈ ys) → length xs ≤ length ys
length-within [] ys d h = omega arith
length-within (x ∷ xs) ys (n, d) h =
    let a = length-within xs (without x ys) d (λ z m. mem-keep (λ y. not (eqb x y)) ys (h z (there m)) (not_T (eqb x z) (λ e. n (rw (eqb→eq x z e) m)))) in
    let b = length_without x ys (h x (here refl)) in
    omega arith

pub length-same : (xs ys : List ℕ) → Distinct xs → Distinct ys → ((x : ℕ) → (x ∈ xs) ↔ (x ∈ ys)) → length xs ≡ length ys
length-same xs ys d e h = let a = length-within xs ys d (λ x. (h x).0) in let b = length-within ys xs e (λ x. (h x).1) in omega arith

-- Rising lists with the same members are equal.
least : (x y : ℕ) (xs ys : List ℕ) → ((z : ℕ) → z ∈ xs → x < z) → ((z : ℕ) → z ∈ ys → y < z) → x ∈ (y ∷ ys) → y ∈ (x ∷ xs) → x ≡ y
least x y xs ys u v (here e) k = e
least x y xs ys u v (there m) (here e) = sym e
least x y xs ys u v (there m) (there k) = let a = v x m in let b = u y k in omega arith

later-mem : (x y z : ℕ) (ys : List ℕ) → x ≡ y → x < z → z ∈ (y ∷ ys) → z ∈ ys
later-mem x y z ys e h (here q) = absurd (let k : ⊥ = omega arith in k)
later-mem x y z ys e h (there m) = m

pub rising-same : (xs ys : List ℕ) → Rising xs → Rising ys → ((x : ℕ) → (x ∈ xs) ↔ (x ∈ ys)) → xs ≡ ys
rising-same [] [] r s h = refl
rising-same [] (y ∷ ys) r s h = elim ((h y).1 (here refl)) [ ]
rising-same (x ∷ xs) [] r s h = elim ((h x).0 (here refl)) [ ]
rising-same (x ∷ xs) (y ∷ ys) (u, r) (v, s) h =
    let e = least x y xs ys u v ((h x).0 (here refl)) ((h y).1 (here refl)) in
    ap₂ {C = List ℕ} (λ a b. a ∷ b) e (rising-same xs ys r s (λ z. (
      (λ m. later-mem x y z ys e (u z m) ((h z).0 (there m))),
      (λ m. later-mem y x z xs (sym e) (v z m) ((h z).1 (there m))),
    )))
