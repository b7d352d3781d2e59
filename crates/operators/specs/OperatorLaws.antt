-- The computed operators are W3C's (`Standard`), with the exceptions E1 and E2 and no others: each law holds for every case rule, value and operand.
use Rattle.std.specs.Prelude.{◌≡◌, refl, ◌↔◌, ◌⊎◌, Bool, true, false, not, cond, ◌&&◌, ℕ, zero, suc, ◌+◌, ◌-◌, ◌<◌, ◌≤◌, T, leb, get_or, take, drop}
use Rattle.std.proofs.Common.{sym, ◌∙◌, subst, inl, inr, arith, eq-eqb, ne_eqb, leb-true, eqb→eq, length-append, take-append-drop, drop_at}
use Rattle.std.proofs.Math.Path.{ap}
use Rattle.std.proofs.Math.Logic.{⊎_elim}
use Rattle.std.proofs.Math.Logic.Iff
use mathlib.Core.List.Memᴰ
use mathlib.Core.List.{List, [], ◌∷◌, ◌++◌, map, map-append, append-nil, Memᴰ}
use Rattle.std.proofs.Math.Dec.{eqb}
use Rattle.std.proofs.Math.ListN.{length, get_or-map}
use Rattle.std.proofs.lemmas.List.{length-map, get_or_at}
use Rattle.std.proofs.Math.Seq.{drop-cons, take_at}
use Rattle.letters.specs.Bytes.{same_bytes, fold_byte, fold, space_byte}
use Rattle.letters.specs.BytesLaws.{and-law, or-law, either, holds, same-law}
use Rattle.operators.specs.Operators.{empty_bytes, equal_holds, begins_with, prefix_holds, suffix_holds, dash_holds, contains_bytes, substring_holds, split, some_part, includes_holds}
use Rattle.operators.specs.SplitLaws.{part-law}
use Rattle.operators.specs.Standard.{Equal, Prefix, Suffix, Substring, Dash, Clear, Part, Includes}

-- ---- lists

map-take : (g : ℕ → ℕ) (n : ℕ) (l : List ℕ) → map g (take n l) ≡ take n (map g l)
map-take g zero l = refl
map-take g (suc n) [] = refl
map-take g (suc n) (x ∷ l) = ap (λ (k : List ℕ). g x ∷ k) (map-take g n l)

map-drop : (g : ℕ → ℕ) (n : ℕ) (l : List ℕ) → map g (drop n l) ≡ drop n (map g l)
map-drop g zero l = refl
map-drop g (suc n) [] = refl
map-drop g (suc n) (x ∷ l) = map-drop g n l

byte-law : (v : List ℕ) → T (not (empty_bytes v)) ↔ (v ≡ [] → ⊥)
unfolding empty_bytes
byte-law [] = (λ t e. t, λ n. n refl)
byte-law (x ∷ xs) = (λ t e. let z = ap length e in omega arith, λ n. tt)

-- E1, with X for what the operator says of the value: it tells that the value has a byte where the operand has one, and always holds for the empty operand
by-operand : {X : Type 0} (v o : List ℕ) → (X → (o ≡ [] → ⊥) → v ≡ [] → ⊥) → (o ≡ [] → X) → ((v ≡ [] → ⊥) × X) ↔ (((o ≡ [] → ⊥) × X) ⊎ ((o ≡ []) × (v ≡ [] → ⊥)))
by-operand v [] longer always = (λ (n, x). inr (refl, n), ⊎_elim (λ (m, x). absurd (m refl)) (λ (e, n). (n, always e)))
by-operand v (b ∷ o) longer always = (λ (n, x). inl (λ e. let z = ap length e in omega arith, x), ⊎_elim (λ (m, x). (longer x m, x)) (λ (e, n). (n, always e)))

-- a value that holds an operand with a byte has one
longer : (f : Bool) (v o front rest : List ℕ) → fold f v ≡ front ++ (fold f o ++ rest) → (o ≡ [] → ⊥) → v ≡ [] → ⊥
longer f v [] front rest e n z = n refl
longer f v (b ∷ o) front rest e n z =
    let h = ap length (sym e ∙ ap (fold f) z) in
    omega (arith, h, length-append front (fold f (b ∷ o) ++ rest), length-append (fold f (b ∷ o)) rest)

module _ (f : Bool) (v o : List ℕ) where
  begins-found : T (begins_with f v o) → (rest : List ℕ) × (fold f v ≡ fold f o ++ rest)
  unfolding begins_with
  begins-found t = (
    fold f (drop (length o) v),
    ap (fold f) (sym (take-append-drop (length o) v))
        ∙ map-append (fold_byte f) (take (length o) v) (drop (length o) v)
        ∙ ap (λ (l : List ℕ). l ++ fold f (drop (length o) v)) ((same-law f f _ o).0 t),
  )

  begins-holds : (rest : List ℕ) → fold f v ≡ fold f o ++ rest → T (begins_with f v o)
  unfolding begins_with
  begins-holds rest e =
      (same-law f f _ o).1
      (map-take (fold_byte f) (length o) v
      ∙ ap (take (length o)) e
      ∙ take_at (fold f o) rest (length o) (length-map o (fold_byte f)))

  -- E1: the empty operand, which W3C's prefix never matches, matches every value that is not empty.
  pub prefix-law : T (prefix_holds f v o) ↔ (Prefix f v o ⊎ ((o ≡ []) × (v ≡ [] → ⊥)))
  unfolding prefix_holds Prefix
  prefix-law =
      Iff.trans (and-law (not (empty_bytes v)) (begins_with f v o))
      (Iff.trans (Iff.and (byte-law v) (begins-found, λ (rest, e). begins-holds rest e))
      (by-operand v o (λ (rest, e). longer f v o [] rest e) (λ e. (fold f v, rw e))))

  ends_found : T (same_bytes f f (drop (length v - length o) v) o) → (front : List ℕ) × (fold f v ≡ front ++ fold f o)
  ends_found t =
      let k = length v - length o in (
        fold f (take k v),
        ap (fold f) (sym (take-append-drop k v))
            ∙ map-append (fold_byte f) (take k v) (drop k v)
            ∙ ap (λ (l : List ℕ). fold f (take k v) ++ l) ((same-law f f _ o).0 t),
      )

  ends-holds : (front : List ℕ) → fold f v ≡ front ++ fold f o → T (same_bytes f f (drop (length v - length o) v) o)
  ends-holds front e =
      let k : length front ≡ length v - length o = omega (arith, ap length e, length-map v (fold_byte f), length-map o (fold_byte f), length-append front (fold f o)) in
      (same-law f f _ o).1
      (map-drop (fold_byte f) (length v - length o) v
      ∙ ap (drop (length v - length o)) e
      ∙ drop_at front (fold f o) (length v - length o) k)

  -- E1
  pub suffix-law : T (suffix_holds f v o) ↔ (Suffix f v o ⊎ ((o ≡ []) × (v ≡ [] → ⊥)))
  unfolding suffix_holds Suffix
  suffix-law =
      Iff.trans (and-law (not (empty_bytes v)) (same_bytes f f (drop (length v - length o) v) o))
      (Iff.trans (Iff.and (byte-law v) (ends_found, λ (front, e). ends-holds front e))
      (by-operand v o (λ (front, e). longer f v o front [] (e ∙ rw append-nil)) (λ e. (fold f v, rw (e, append-nil)))))

-- [att=val] is W3C's.
pub equal-law : (f : Bool) (v o : List ℕ) → T (equal_holds f v o) ↔ Equal f v o
unfolding Equal
equal-law f v o = same-law f f v o

-- ---- dash

fold-dash : (f : Bool) → fold_byte f 45 ≡ 45
fold-dash true = refl
fold-dash false = refl

fold-none : (f : Bool) → fold_byte f 0 ≡ 0
fold-none true = refl
fold-none false = refl

lower-dash : (b : ℕ) (p q : Bool) → leb 65 b ≡ p → cond p (cond q (b + 32) b) b ≡ 45 → b ≡ 45
lower-dash b true true h e = absurd (omega (arith, leb-true 65 b h))
lower-dash b true false h e = e
lower-dash b false q h e = e

only-dash : (f : Bool) (b : ℕ) → fold_byte f b ≡ 45 → b ≡ 45
only-dash true b e = lower-dash b (leb 65 b) (leb b 90) refl e
only-dash false b e = e

in-range : (v : List ℕ) (n : ℕ) → get_or v n 0 ≡ 45 → n < length v
in-range [] n e = absurd (omega arith)
in-range (x ∷ xs) zero e = omega arith
in-range (x ∷ xs) (suc n) e = omega (arith, in-range xs n e)

module _ (f : Bool) (v o : List ℕ) where
  dash-found : T (begins_with f v o) → get_or v (length o) 0 ≡ 45 → (rest : List ℕ) × (fold f v ≡ fold f o ++ (45 ∷ rest))
  unfolding begins_with
  dash-found t e = (
    fold f (drop (suc (length o)) v),
    ap (fold f) (sym (take-append-drop (length o) v))
        ∙ map-append (fold_byte f) (take (length o) v) (drop (length o) v)
        ∙ rw ((same-law f f (take (length o) v) o).0 t, drop-cons v (length o) 0 (in-range v (length o) e), e, fold-dash f),
  )

  dash-at : (rest : List ℕ) → fold f v ≡ fold f o ++ (45 ∷ rest) → get_or v (length o) 0 ≡ 45
  dash-at rest e =
      only-dash f (get_or v (length o) 0)
      (sym (get_or-map (fold_byte f) v (length o) 0)
      ∙ rw (e, fold-none f) (get_or_at (fold f o) 45 rest 0 (length o) (length-map o (fold_byte f))))

  -- [att|=val] is W3C's.
  pub dash-law : T (dash_holds f v o) ↔ Dash f v o
  unfolding dash_holds Dash
  dash-law =
      let b = begins_with f v o in
      let d = eqb (get_or v (length o) 0) 45 in
      Iff.trans (or-law (same_bytes f f v o) (b && d)) (either (same-law f f v o) (Iff.trans (and-law b d)
      (λ (t, e). dash-found t (eqb→eq _ _ e), λ (rest, e). (begins-holds f v o (45 ∷ rest) e, holds (eq-eqb _ _ (dash-at rest e))))))

-- ---- substring

module _ (f : Bool) (o : List ℕ) where
  contains-found : (v : List ℕ) → T (contains_bytes f v o) → (front : List ℕ) × ((rest : List ℕ) × (fold f v ≡ front ++ (fold f o ++ rest)))
  unfolding contains_bytes
  contains-found [] t = ([], begins-found f [] o t)
  contains-found (x ∷ xs) t =
      ⊎_elim (λ u. ([], begins-found f (x ∷ xs) o u))
      (λ u. let (front, (rest, e)) = contains-found xs u in (fold_byte f x ∷ front, (rest, ap (λ (l : List ℕ). fold_byte f x ∷ l) e)))
      ((or-law (begins_with f (x ∷ xs) o) (contains_bytes f xs o)).0 t)

  contains-holds : (v front rest : List ℕ) → fold f v ≡ front ++ (fold f o ++ rest) → T (contains_bytes f v o)
  unfolding contains_bytes
  contains-holds [] [] rest e = begins-holds f [] o rest e
  contains-holds [] (y ∷ ys) rest e = let z = ap length e in absurd (omega arith)
  contains-holds (x ∷ xs) [] rest e = (or-law (begins_with f (x ∷ xs) o) _).1 (inl (begins-holds f (x ∷ xs) o rest e))
  contains-holds (x ∷ xs) (y ∷ ys) rest e = (or-law (begins_with f (x ∷ xs) o) _).1 (inr (contains-holds xs ys rest (cc)))

-- [att*=val] is W3C's.
pub substring-law : (f : Bool) (v o : List ℕ) → T (substring_holds f v o) ↔ Substring f v o
unfolding substring_holds Substring
substring-law f v o =
    Iff.trans (and-law (not (empty_bytes o)) (contains_bytes f v o))
    (Iff.and (byte-law o) (contains-found f o v, λ (front, (rest, e)). contains-holds f o v front rest e))

-- ---- includes

some-found : (f : Bool) (o : List ℕ) (ps : List (List ℕ)) → T (some_part f o ps) → (p : List ℕ) × (Memᴰ p ps × (fold f p ≡ fold f o))
unfolding some_part
some-found f o [] t = absurd t
some-found f o (p ∷ ps) t =
    ⊎_elim (λ u. (p, (Memᴰ.head refl, (same-law f f p o).0 u)))
    (λ u. let (q, (m, e)) = some-found f o ps u in (q, (Memᴰ.tail m, e)))
    ((or-law (same_bytes f f p o) (some_part f o ps)).0 t)

some_holds : (f : Bool) (o : List ℕ) (ps : List (List ℕ)) (p : List ℕ) → Memᴰ p ps → fold f p ≡ fold f o → T (some_part f o ps)
unfolding some_part
some_holds f o [] p m e = absurd (Memᴰ.not-nil m)
some_holds f o (q ∷ ps) p m e =
    (or-law (same_bytes f f q o) (some_part f o ps)).1
    (⊎_elim (λ h. inl ((same-law f f q o).1 (ap (fold f) (sym h) ∙ e))) (λ n. inr (some_holds f o ps p n e)) (Memᴰ.cases_cons m))

-- a byte is white space under every case rule, or under none
no-space : (b : ℕ) → 33 ≤ b → space_byte b ≡ false
no-space b h = rw (ne_eqb b 32 (λ e. omega arith), ne_eqb b 10 (λ e. omega arith), ne_eqb b 13 (λ e. omega arith), ne_eqb b 9 (λ e. omega arith), ne_eqb b 12 (λ e. omega arith))

space-fold : (f : Bool) (b : ℕ) → space_byte (fold_byte f b) ≡ space_byte b
space-fold false b = refl
space-fold true b = go (leb 65 b) refl (leb b 90)
  where
    go : (x : Bool) → leb 65 b ≡ x → (y : Bool) → space_byte (cond x (cond y (b + 32) b) b) ≡ space_byte b
    go true e true = let h = leb-true 65 b e in no-space (b + 32) (omega arith) ∙ sym (no-space b (omega arith))
    go true e false = refl
    go false e y = refl

clear-same : (f : Bool) (p o : List ℕ) → fold f p ≡ fold f o → Clear p → Clear o
unfolding Clear
clear-same f p [] e c = tt
clear-same f [] (y ∷ o) e c = let z = ap length e in absurd (omega arith)
clear-same f (x ∷ p) (y ∷ o) e c =
    let h : fold_byte f x ≡ fold_byte f y = cc in
    let k : fold f p ≡ fold f o = cc in
    (sym (space-fold f y) ∙ ap space_byte (sym h) ∙ space-fold f x ∙ c.0, clear-same f p o k c.1)

nothing-folds : (f : Bool) (p : List ℕ) → fold f p ≡ [] → p ≡ []
nothing-folds f [] e = refl
nothing-folds f (x ∷ p) e = let z = ap length e in absurd (omega arith)

-- E2: the empty operand, which W3C's includes never matches, matches where some part is empty.
pub includes-law : (f : Bool) (v o : List ℕ) → T (includes_holds f v o) ↔ (Includes f v o ⊎ ((o ≡ []) × Part v []))
unfolding includes_holds Includes
includes-law f v o = (λ t. to o (some-found f o (split v) t), from)
  where
    to : (o : List ℕ) → (p : List ℕ) × (Memᴰ p (split v) × (fold f p ≡ fold f o)) → Includes f v o ⊎ ((o ≡ []) × Part v [])
    to [] (p, (m, e)) = inr (refl, subst (λ (q : List ℕ). Part v q) (nothing-folds f p e) ((part-law v p).0 m))
    to (b ∷ o) (p, (m, e)) =
        let q = (part-law v p).0 m in
        inl (λ z. let k = ap length z in omega arith, (clear-same f p (b ∷ o) e q.clear, (p, (q, e))))

    from : Includes f v o ⊎ ((o ≡ []) × Part v []) → T (some_part f o (split v))
    from (inl (n, (c, (p, (q, e))))) = some_holds f o (split v) p ((part-law v p).1 q) e
    from (inr (z, q)) = some_holds f o (split v) [] ((part-law v []).1 q) (ap (fold f) (sym z))
