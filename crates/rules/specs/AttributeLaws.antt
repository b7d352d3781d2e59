-- What a lookup finds: the first attribute of the name, or that there is none (01, section 3); and where that leaves W3C (E11).
use Rattle.std.proofs.Math.Logic.Iff
use Rattle.std.proofs.Math.Path.{◌≡◌, refl, ap}
use Rattle.std.specs.Prelude.{◌↔◌, ◌⊎◌, Bool, ℕ}
use Rattle.std.proofs.Common.{sym, ◌∙◌, inl, inr, ⊎_elim, arith}
use Rattle.std.proofs.Math.Bool.{true, false, cond}
use mathlib.Core.List.Memᴰ
use mathlib.Core.List.{List, [], ◌∷◌, Memᴰ}
use Rattle.std.proofs.Math.Option.{some}
use Rattle.std.proofs.Math.Dec.{T}
use Rattle.std.proofs.lemmas.Bool.{false≢true}
use Rattle.letters.specs.Bytes.{fold, equal_bytes, same_bytes}
use Rattle.letters.specs.BytesLaws.{holds, fold-false, equal→eq, equal-refl, same-law, exact-law}
use Rattle.rules.specs.Attributes.{Attribute, lookup, is_there}
use Rattle.rules.specs.Standard.{HasAttribute, First, WithValue}
use Rattle.rules.specs.Departures.{OtherCase, CaseIgnored, AnyCase}
use Rattle.rules.specs.Lowered.{FirstLowered}

module _ (wanted : List ℕ) where
  named : (a : Attribute) → same_bytes true false a.name wanted ≡ true → fold true a.name ≡ wanted
  named a e = (exact-law true a.name wanted).0 (holds e)

  not_named : (a : Attribute) → same_bytes true false a.name wanted ≡ false → fold true a.name ≡ wanted → ⊥
  not_named a e n = rw e at ((exact-law true a.name wanted).1 n)

  -- It finds something exactly when some attribute has the name.
  pub there-law : (attributes : List Attribute) → T (is_there (lookup wanted attributes)) ↔ ((a : Attribute) × (Memᴰ a attributes × (fold true a.name ≡ wanted)))
  unfolding lookup is_there
  there-law [] = (λ t. absurd t, λ p. absurd (Memᴰ.not-nil p.1.0))
  there-law (a ∷ more) = go (same_bytes true false a.name wanted) refl (there-law more)
    where
      go : (b : Bool) → same_bytes true false a.name wanted ≡ b → T (is_there (lookup wanted more)) ↔ ((x : Attribute) × (Memᴰ x more × (fold true x.name ≡ wanted)))
          → T (is_there (cond b (some a.value) (lookup wanted more))) ↔ ((x : Attribute) × (Memᴰ x (a ∷ more) × (fold true x.name ≡ wanted)))
      go true s ih = (λ t. (a, (Memᴰ.head refl, named a s)), λ p. tt)
      go false s ih = (
        (λ t. let (x, (m, e)) = ih.0 t in (x, (Memᴰ.tail m, e))),
        (λ (x, (m, e)). ih.1 (⊎_elim (λ q. absurd (not_named a s (rw q at e))) (λ n. (x, (n, e))) (Memᴰ.cases_cons m))),
      )

  to-lowered : (attributes : List Attribute) (value : List ℕ) → lookup wanted attributes ≡ some value → FirstLowered wanted value attributes
  unfolding lookup
  to-lowered [] value e = let q : ◌≡◌ {A = ℕ} 0 1 = cc in absurd (omega arith)
  to-lowered (a ∷ more) value e = go (same_bytes true false a.name wanted) refl e (to-lowered more value)
    where
      go : (b : Bool) → same_bytes true false a.name wanted ≡ b → cond b (some a.value) (lookup wanted more) ≡ some value → (lookup wanted more ≡ some value → FirstLowered wanted value more) → FirstLowered wanted value (a ∷ more)
      go true s e ih = FirstLowered.here {a = a} (named a s) (cc)
      go false s e ih = FirstLowered.later (not_named a s) (ih e)

  from-lowered : (attributes : List Attribute) (value : List ℕ) → FirstLowered wanted value attributes → lookup wanted attributes ≡ some value
  unfolding lookup
  from-lowered [] value f = elim f [ ]
  from-lowered (a ∷ more) value f = go (same_bytes true false a.name wanted) refl f (from-lowered more value)
    where
      go : (b : Bool) → same_bytes true false a.name wanted ≡ b → FirstLowered wanted value (a ∷ more) → (FirstLowered wanted value more → lookup wanted more ≡ some value) → cond b (some a.value) (lookup wanted more) ≡ some value
      go true s (FirstLowered.here n v) ih = ap some v
      go true s (FirstLowered.later n f) ih = absurd (n (named a s))
      go false s (FirstLowered.here n v) ih = absurd (not_named a s n)
      go false s (FirstLowered.later n f) ih = ih f

  -- A lookup gives a value exactly when it is the first one's.
  pub lookup-lowered : (attributes : List Attribute) (value : List ℕ) → (lookup wanted attributes ≡ some value) ↔ FirstLowered wanted value attributes
  lookup-lowered attributes value = (to-lowered attributes value, from-lowered attributes value)

module _ (name value : List ℕ) where
  -- Of a lower-cased name that is W3C's first of HTML.
  pub lowered-first : (attributes : List Attribute) → FirstLowered (fold true name) value attributes ↔ First true name value attributes
  lowered-first [] = (λ f. elim f [ ], λ f. elim f [ ])
  lowered-first (a ∷ more) = (to (lowered-first more).0, from (lowered-first more).1)
    where
      to : (FirstLowered (fold true name) value more → First true name value more) → FirstLowered (fold true name) value (a ∷ more) → First true name value (a ∷ more)
      to go (FirstLowered.here n v) = First.here n v
      to go (FirstLowered.later n f) = First.later n (go f)

      from : (First true name value more → FirstLowered (fold true name) value more) → First true name value (a ∷ more) → FirstLowered (fold true name) value (a ∷ more)
      from go (First.here n v) = FirstLowered.here n v
      from go (First.later n f) = FirstLowered.later n (go f)

-- The same in W3C's words.
pub lookup-law : (name : List ℕ) (attributes : List Attribute) (value : List ℕ) → (lookup (fold true name) attributes ≡ some value) ↔ First true name value attributes
lookup-law name attributes value = Iff.trans (lookup-lowered (fold true name) attributes value) (lowered-first name value attributes)

-- ---- E11

-- where case counts, equal under the case rule is equal
pub exact : (a b : List ℕ) → fold false a ≡ fold false b → a ≡ b
exact a b e = sym (fold-false a) ∙ e ∙ fold-false b

module _ (name : List ℕ) where
  differs : (a : Attribute) → equal_bytes a.name name ≡ false → a.name ≡ name → ⊥
  differs a e z = false≢true (sym e ∙ ap (equal_bytes a.name) (sym z) ∙ equal-refl a.name)

  none-later : (a : Attribute) (more : List Attribute) → ((a.name ≡ name → ⊥) → fold true a.name ≡ fold true name → ⊥) → (OtherCase name more → ⊥) → OtherCase name (a ∷ more) → ⊥
  unfolding OtherCase
  none-later a more n k (x, (m, (d, e))) = ⊎_elim (λ q. n (rw q at d) (rw q at e)) (λ l. k (x, (l, (d, e)))) (Memᴰ.cases_cons m)

  -- some attribute has the name in other case, or none has
  other : (attributes : List Attribute) → OtherCase name attributes ⊎ (OtherCase name attributes → ⊥)
  unfolding OtherCase
  other [] = inr (λ p. absurd (Memᴰ.not-nil p.1.0))
  other (a ∷ more) = go (equal_bytes a.name name) refl (same_bytes true true a.name name) refl (other more)
    where
      go : (x : Bool) → equal_bytes a.name name ≡ x → (y : Bool) → same_bytes true true a.name name ≡ y → OtherCase name more ⊎ (OtherCase name more → ⊥) → OtherCase name (a ∷ more) ⊎ (OtherCase name (a ∷ more) → ⊥)
      go x e y s (inl (b, (m, q))) = inl (b, (Memᴰ.tail m, q))
      go true e y s (inr k) = inr (none-later a more (λ d h. d (equal→eq a.name name (holds e))) k)
      go false e true s (inr k) = inl (a, (Memᴰ.head refl, (differs a e, (same-law true true a.name name).0 (holds s))))
      go false e false s (inr k) = inr (none-later a more (λ d h. rw s at ((same-law true true a.name name).1 h)) k)

  module _ (value : List ℕ) where
    -- where no attribute has the name in other case, the first is the same with case ignored and without
    to-exact : (attributes : List Attribute) → (OtherCase name attributes → ⊥) → First true name value attributes → First false name value attributes
    unfolding OtherCase
    to-exact [] k f = elim f [ ]
    to-exact (a ∷ more) k f = go (equal_bytes a.name name) refl f (to-exact more (λ (x, (m, q)). k (x, (Memᴰ.tail m, q))))
      where
        go : (b : Bool) → equal_bytes a.name name ≡ b → First true name value (a ∷ more) → (First true name value more → First false name value more) → First false name value (a ∷ more)
        go true e (First.here n v) ih = First.here (ap (fold false) (equal→eq a.name name (holds e))) v
        go false e (First.here n v) ih = absurd (k (a, (Memᴰ.head refl, (differs a e, n))))
        go b e (First.later n f) ih = First.later (λ z. n (ap (fold true) (exact a.name name z))) (ih f)

    from-exact : (attributes : List Attribute) → (OtherCase name attributes → ⊥) → First false name value attributes → First true name value attributes
    unfolding OtherCase
    from-exact [] k f = elim f [ ]
    from-exact (a ∷ more) k f = go (same_bytes true true a.name name) refl f (from-exact more (λ (x, (m, q)). k (x, (Memᴰ.tail m, q))))
      where
        go : (b : Bool) → same_bytes true true a.name name ≡ b → First false name value (a ∷ more) → (First false name value more → First true name value more) → First true name value (a ∷ more)
        go b s (First.here n v) ih = First.here (ap (fold true) (exact a.name name n)) v
        go true s (First.later n f) ih = absurd (k (a, (Memᴰ.head refl, ((λ z. n (ap (fold false) z)), (same-law true true a.name name).0 (holds s)))))
        go false s (First.later n f) ih = First.later (λ h. rw s at ((same-law true true a.name name).1 h)) (ih f)

  -- E11: with case ignored everywhere, the attribute looked at is W3C's unless outside HTML some attribute has the name in other case.
  pub any-case-law : (html : Bool) (Says : List ℕ → Type 0) (attributes : List Attribute) → WithValue true name Says attributes ↔ AnyCase html name Says attributes
  unfolding WithValue AnyCase CaseIgnored
  any-case-law true Says attributes = (λ w. inl ((λ p. false≢true (sym p.0)), w), ⊎_elim (λ p. p.1) (λ p. p.1))
  any-case-law false Says attributes = (
    (λ (v, (f, s)). ⊎_elim (λ o. inr ((refl, o), (v, (f, s)))) (λ k. inl ((λ p. k p.1), (v, (to-exact v attributes k f, s)))) (other attributes)),
    ⊎_elim (λ (n, (v, (f, s))). (v, (from-exact v attributes (λ o. n (refl, o)) f, s))) (λ p. p.1),
  )

  -- The same of an attribute that is there.
  pub there-any-case : (html : Bool) (attributes : List Attribute) → HasAttribute true name attributes ↔ (HasAttribute html name attributes ⊎ CaseIgnored html name attributes)
  unfolding HasAttribute CaseIgnored OtherCase
  there-any-case true attributes = (inl, ⊎_elim (λ h. h) (λ p. absurd (false≢true (sym p.0))))
  there-any-case false attributes = (to, ⊎_elim (λ (a, (m, e)). (a, (m, ap (fold true) (exact a.name name e)))) (λ (z, (a, (m, (d, e)))). (a, (m, e))))
    where
      to : (a : Attribute) × (Memᴰ a attributes × (fold true a.name ≡ fold true name)) → ((a : Attribute) × (Memᴰ a attributes × (fold false a.name ≡ fold false name))) ⊎ ((false ≡ false) × OtherCase name attributes)
      to (a, (m, e)) = go (equal_bytes a.name name) refl
        where
          go : (b : Bool) → equal_bytes a.name name ≡ b → ((a : Attribute) × (Memᴰ a attributes × (fold false a.name ≡ fold false name))) ⊎ ((false ≡ false) × OtherCase name attributes)
          go true q = inl (a, (m, ap (fold false) (equal→eq a.name name (holds q))))
          go false q = inr (refl, (a, (m, (differs a q, e))))
