-- Names: when two are the same, how often one was counted, and which open element an end tag closes.
use Rattle.std.specs.Prelude.{◌≡◌, refl, ◌↔◌, ◌⊎◌, List, [], ◌∷◌, ◌++◌, map, Bool, true, false, not, ◌&&◌, ◌||◌, cond, eqb, take, length, ℕ, zero, suc}
use Rattle.std.proofs.Common.{sym, ap, ◌∙◌, inl, inr, eqb→eq, eq-eqb}
use Rattle.std.proofs.lemmas.Bool.{false≢true}
use Rattle.meaning.specs.Lists.{◌∈◌, here, there}
use Rattle.meaning.specs.Elements.{Placed, Name, same_name, Tag, content, html, name_of, Closes, none, through}
use Rattle.meaning.specs.Machine.{Counter, times_of, count_name, known, up_to, nearest}

pub same-name-eq : (x y : Name) → same_name x y ≡ true → x ≡ y
same-name-eq [] [] h = refl
same-name-eq [] (y ∷ ys) h = absurd (false≢true h)
same-name-eq (x ∷ xs) [] h = absurd (false≢true h)
same-name-eq (x ∷ xs) (y ∷ ys) h = go (eqb x y) refl h (same-name-eq xs ys)
  where
    go : (b : Bool) → eqb x y ≡ b → b && same_name xs ys ≡ true → (same_name xs ys ≡ true → xs ≡ ys) → x ∷ xs ≡ y ∷ ys
    go true e q ih = let p : x ≡ y = eqb→eq x y (rw e tt) in let r = ih q in cc
    go false e q ih = absurd (false≢true q)

pub same-name-self : (x : Name) → same_name x x ≡ true
same-name-self [] = refl
same-name-self (x ∷ xs) = rw (eq-eqb x x refl) (same-name-self xs)

-- Two names are the same exactly when they are equal.
pub same_names : (x y : Name) → (same_name x y ≡ true) ↔ (x ≡ y)
same_names x y = (same-name-eq x y, λ e. ap (same_name x) (sym e) ∙ same-name-self x)

-- A name is counted once more, and no other.
pub times-count : (x y : Name) (r : List Counter) → times_of x (count_name y r) ≡ cond (same_name x y) (suc (times_of x r)) (times_of x r)
times-count x y [] = refl
times-count x y (z ∷ zs) = push (same_name y z.name) ∙ go (same_name y z.name) refl (same_name x y) refl (same_name x z.name) refl (times-count x y zs)
  where
    push : (b : Bool) → times_of x (cond b (record { name = z.name; times = suc z.times } ∷ zs) (z ∷ count_name y zs)) ≡ cond b (cond (same_name x z.name) (suc z.times) (times_of x zs)) (cond (same_name x z.name) z.times (times_of x (count_name y zs)))
    push true = refl
    push false = refl

    alike : same_name y z.name ≡ true → same_name x z.name ≡ same_name x y
    alike e = ap (same_name x) (sym (same-name-eq y z.name e))

    meet : same_name x y ≡ true → same_name x z.name ≡ true → same_name y z.name ≡ true
    meet e e' = let p = same-name-eq x y e in let q = same-name-eq x z.name e' in rw (← p, ← q) (same-name-self x)

    go : (b : Bool) → same_name y z.name ≡ b → (p : Bool) → same_name x y ≡ p → (q : Bool) → same_name x z.name ≡ q → times_of x (count_name y zs) ≡ cond p (suc (times_of x zs)) (times_of x zs)
        → cond b (cond q (suc z.times) (times_of x zs)) (cond q z.times (times_of x (count_name y zs))) ≡ cond p (suc (cond q z.times (times_of x zs))) (cond q z.times (times_of x zs))
    go true eb true ep true eq ih = refl
    go true eb true ep false eq ih = absurd (false≢true (sym eq ∙ alike eb ∙ ep))
    go true eb false ep true eq ih = absurd (false≢true (sym ep ∙ sym (alike eb) ∙ eq))
    go true eb false ep false eq ih = refl
    go false eb true ep true eq ih = absurd (false≢true (sym eb ∙ meet ep eq))
    go false eb true ep false eq ih = ih
    go false eb false ep true eq ih = refl
    go false eb false ep false eq ih = ih

pub known-count : (x y : Name) (r : List Counter) → known x (count_name y r) ≡ (same_name x y || known x r)
known-count x y [] = refl
known-count x y (z ∷ zs) = push (same_name y z.name) ∙ go (same_name y z.name) refl (same_name x y) refl (same_name x z.name) refl (known-count x y zs)
  where
    push : (b : Bool) → known x (cond b (record { name = z.name; times = suc z.times } ∷ zs) (z ∷ count_name y zs)) ≡ cond b (same_name x z.name || known x zs) (same_name x z.name || known x (count_name y zs))
    push true = refl
    push false = refl

    alike : same_name y z.name ≡ true → same_name x z.name ≡ same_name x y
    alike e = ap (same_name x) (sym (same-name-eq y z.name e))

    go : (b : Bool) → same_name y z.name ≡ b → (p : Bool) → same_name x y ≡ p → (q : Bool) → same_name x z.name ≡ q → known x (count_name y zs) ≡ (p || known x zs)
        → cond b (q || known x zs) (q || known x (count_name y zs)) ≡ (p || (q || known x zs))
    go true eb true ep true eq ih = refl
    go true eb true ep false eq ih = absurd (false≢true (sym eq ∙ alike eb ∙ ep))
    go true eb false ep q eq ih = refl
    go false eb true ep true eq ih = refl
    go false eb true ep false eq ih = ih
    go false eb false ep true eq ih = refl
    go false eb false ep false eq ih = ih

-- As many names are known as before, or one more if the name is new.
pub length-count : (y : Name) (r : List Counter) → length (count_name y r) ≡ cond (not (known y r)) (suc (length r)) (length r)
length-count y [] = refl
length-count y (z ∷ zs) = go (same_name y z.name) (length-count y zs)
  where
    later : (b : Bool) (m n : ℕ) → m ≡ cond b (suc n) n → suc m ≡ cond b (suc (suc n)) (suc n)
    later true m n e = ap suc e
    later false m n e = ap suc e

    go : (b : Bool) → length (count_name y zs) ≡ cond (not (known y zs)) (suc (length zs)) (length zs)
        → length (cond b (record { name = z.name; times = suc z.times } ∷ zs) (z ∷ count_name y zs)) ≡ cond (not (b || known y zs)) (suc (suc (length zs))) (suc (length zs))
    go true ih = refl
    go false ih = later (not (known y zs)) (length (count_name y zs)) (length zs) ih

-- The pop rule, as the machine computes it, is the pop rule as it is said.
module _ {A : Type 0} (x : Name) where
  abbrev Absent : List (Placed A) → Type 0
  Absent ss = (s : Placed A) → s ∈ ss → ¬ (name_of s ≡ x)

  abbrev Found : List (Placed A) → ℕ → Type 0
  Found all n =
      ((n ≡ 0) × Absent all)
      ⊎ ((inner : List (Placed A)) × (outer : List (Placed A)) × (s : Placed A) × (all ≡ inner ++ (s ∷ outer)) × Absent inner × (name_of s ≡ x) × (n ≡ suc (length inner)))

  absent_more : (s : Placed A) (ss : List (Placed A)) → same_name x (name_of s) ≡ false → Absent ss → Absent (s ∷ ss)
  absent_more s ss e h r (here q) p = false≢true (sym e ∙ ap (same_name x) (sym (ap name_of q) ∙ p) ∙ same-name-self x)
  absent_more s ss e h r (there m) p = h r m p

  found : (all : List (Placed A)) → Found all (nearest x (map name_of all))
  found [] = inl (refl, λ s m. elim m [ ])
  found (s ∷ ss) = go (same_name x (name_of s)) refl (nearest x (map name_of ss)) (found ss)
    where
      go : (b : Bool) → same_name x (name_of s) ≡ b → (n : ℕ) → Found ss n → Found (s ∷ ss) (up_to b n)
      go true e n h = inr ([], ss, s, refl, (λ r m. elim m [ ]), sym (same-name-eq x (name_of s) e), refl)
      go false e n (inl (z, h)) = rw z (inl (refl, absent_more s ss e h))
      go false e n (inr (inner, outer, r, p, h, q, z)) = rw z (inr (s ∷ inner, outer, r, ap (λ l. s ∷ l) p, absent_more s inner e h, q, refl))

  take_inner : (inner outer : List (Placed A)) (s : Placed A) → take (suc (length inner)) (inner ++ (s ∷ outer)) ≡ inner ++ (s ∷ [])
  take_inner [] outer s = refl
  take_inner (r ∷ inner) outer s = ap (λ l. r ∷ l) (take_inner inner outer s)

  pub nearest-closes : (all : List (Placed A)) → Closes x all (take (nearest x (map name_of all)) all)
  nearest-closes all = go (nearest x (map name_of all)) (found all)
    where
      go : (n : ℕ) → Found all n → Closes x all (take n all)
      go n (inl (z, h)) = rw z (none h)
      go n (inr (inner, outer, s, p, h, q, z)) = rw (z, p, take_inner inner outer s) (through inner outer s refl h q)

  -- As many as are said are popped.
  pub nearest-length : (all : List (Placed A)) → length (take (nearest x (map name_of all)) all) ≡ nearest x (map name_of all)
  nearest-length [] = refl
  nearest-length (s ∷ ss) = go (same_name x (name_of s)) (nearest x (map name_of ss)) (nearest-length ss)
    where
      go : (b : Bool) (n : ℕ) → length (take n ss) ≡ n → length (take (up_to b n) (s ∷ ss)) ≡ up_to b n
      go true n h = refl
      go false zero h = refl
      go false (suc n) h = ap suc h

  -- Only one list of elements can be closed by an end tag.
  absent-other : (ss : List (Placed A)) (s : Placed A) → Absent ss → s ∈ ss → same_name x (name_of s) ≡ false
  absent-other ss s h m = go (same_name x (name_of s)) refl
    where
      go : (b : Bool) → same_name x (name_of s) ≡ b → b ≡ false
      go true e = absurd (h s m (sym (same-name-eq x (name_of s) e)))
      go false e = refl

  nearest-absent : (ss : List (Placed A)) → Absent ss → nearest x (map name_of ss) ≡ 0
  nearest-absent [] h = refl
  nearest-absent (s ∷ ss) h = (λ i. up_to (absent-other (s ∷ ss) s h (here refl) i) (nearest-absent ss (λ r m. h r (there m)) i))

  nearest-through : (inner outer : List (Placed A)) (s : Placed A) → Absent inner → name_of s ≡ x → nearest x (map name_of (inner ++ (s ∷ outer))) ≡ suc (length inner)
  nearest-through [] outer s h e = ap (λ b. up_to b (nearest x (map name_of outer))) (ap (same_name x) e ∙ same-name-self x)
  nearest-through (r ∷ inner) outer s h e = (λ i. up_to (absent-other (r ∷ inner) r h (here refl) i) (nearest-through inner outer s (λ q m. h q (there m)) e i))

  closes-nearest : (all ss : List (Placed A)) → Closes x all ss → ss ≡ take (nearest x (map name_of all)) all
  closes-nearest all ss (none h) = ap (λ n. take n all) (sym (nearest-absent all h))
  closes-nearest all ss (through inner outer s p h e) = sym (take_inner inner outer s) ∙ rw (p, nearest-through inner outer s h e)

  pub closes-one : (all ss rs : List (Placed A)) → Closes x all ss → Closes x all rs → ss ≡ rs
  closes-one all ss rs c d = closes-nearest all ss c ∙ sym (closes-nearest all rs d)

-- The content rule as 01 says it: no content is for void HTML, and for SVG and MathML that are self-closing.
pub content-none : (t : Tag) (self_closing : Bool) → (content t self_closing ≡ false) ↔ (((html t ≡ true) × (t.void ≡ true)) ⊎ ((html t ≡ false) × (self_closing ≡ true)))
content-none t b = (to (html t) t.void b, from (html t) t.void b)
  where
    to : (h v b : Bool) → cond h (not v) (not b) ≡ false → ((h ≡ true) × (v ≡ true)) ⊎ ((h ≡ false) × (b ≡ true))
    to true true b e = inl (refl, refl)
    to true false b e = absurd (false≢true (sym e))
    to false v true e = inr (refl, refl)
    to false v false e = absurd (false≢true (sym e))

    from : (h v b : Bool) → ((h ≡ true) × (v ≡ true)) ⊎ ((h ≡ false) × (b ≡ true)) → cond h (not v) (not b) ≡ false
    from h v b (inl (e, q)) = rw (e, q)
    from h v b (inr (e, q)) = rw (e, q)
