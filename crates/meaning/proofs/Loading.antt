-- What the limits read off the stack is what is said of the document, and only one load can be said.
use Rattle.std.specs.Prelude.{◌≡◌, refl, List, [], ◌∷◌, map, Bool, true, false, not, ◌&&◌, ◌||◌, cond, length, ℕ, suc, ◌+◌}
use Rattle.std.proofs.Common.{ap, ◌∙◌, arith}
use Rattle.meaning.specs.Lists.{some, Pairs, no_pair, pair, full, sum}
use Rattle.meaning.proofs.ListLaws.{keep-mem, mem-keep, distinct-keep}
use Rattle.meaning.specs.Document.{child, start, after, inside, spot, before, opened}
use Rattle.meaning.specs.Match.{TreeShaped}
use Rattle.meaning.specs.Elements.{Where, Placed, Name, same_name, Tag, name_of, new_name, pairs}
use Rattle.meaning.specs.Calls.{Program}
use Rattle.meaning.specs.Machine.{known, count_name, bearing, counted, pairs_of, weigh}
use Rattle.meaning.specs.Demand.{address_holds, Givers, Loads}
use Rattle.meaning.proofs.Carrying.{hits-iff}
use Rattle.meaning.proofs.Once.{hits-once}
use Rattle.meaning.proofs.Names.{known-count, length-count}
use Rattle.meaning.proofs.Answering.{hits_of, stack_of, children-before}

module _ {A : Type 0} (P : Program A) where
  open P use {roots, hung, types_counted, Ids}

  open-count : (c : Where A) → length (stack_of P c).items ≡ length (opened c)
  open-count start = refl
  open-count (after c e) = open-count c
  open-count (inside c e) = ap suc (open-count c)

  -- The nodes of an element that count for 28.
  abbrev givers_of : Placed A → ℕ
  givers_of s = length (bearing roots hung child (hits_of P s))

  givers-count : (c : Where A) → map (λ f. length f.parents) (stack_of P c).items ≡ map givers_of (opened c)
  givers-count start = refl
  givers-count (after c e) = givers-count c
  givers-count (inside c e) = ap (λ x. givers_of (spot c e) ∷ x) (givers-count c)

  known-before : types_counted ≡ true → (c : Where A) (x : Name) → known x (stack_of P c).top.types ≡ some (λ s. same_name x (name_of s)) (before c)
  known-before y start x = refl
  known-before y (after c e) x = ap (λ b. known x (cond b (count_name e.tag.name (stack_of P c).top.types) (stack_of P c).top.types)) y ∙ known-count x e.tag.name (stack_of P c).top.types ∙ ap (λ b. same_name x e.tag.name || b) (known-before y c x)
  known-before y (inside c e) x = refl

  new-before : (c : Where A) (x : Name) → types_counted && not (known x (stack_of P c).top.types) ≡ types_counted && new_name x c
  new-before c x = go types_counted refl
    where
      go : (b : Bool) → types_counted ≡ b → b && not (known x (stack_of P c).top.types) ≡ b && new_name x c
      go true y = ap not (known-before y c x)
      go false y = refl

  -- One tag more at a level.
  counted-pairs : types_counted ≡ true → (c : Where A) (x : Name) → length (counted P (stack_of P c).top x).types ≡ cond (new_name x c) (suc (length (stack_of P c).top.types)) (length (stack_of P c).top.types)
  counted-pairs y c x =
      ap (λ b. length (cond b (count_name x (stack_of P c).top.types) (stack_of P c).top.types)) y
      ∙ length-count x (stack_of P c).top.types
      ∙ ap (λ b. cond (not b) (suc (length (stack_of P c).top.types)) (length (stack_of P c).top.types)) (known-before y c x)

  pairs-typed : types_counted ≡ true → (c : Where A) → pairs_of P (stack_of P c) ≡ pairs c
  pairs-typed y start = refl
  pairs-typed y (after c e) = ap (λ n. n + sum (map (λ f. length f.outer.types) (stack_of P c).items)) (counted-pairs y c e.tag.name) ∙ go (new_name e.tag.name c) (pairs-typed y c)
    where
      go : (b : Bool) → pairs_of P (stack_of P c) ≡ pairs c → cond b (suc (length (stack_of P c).top.types)) (length (stack_of P c).top.types) + sum (map (λ f. length f.outer.types) (stack_of P c).items) ≡ cond b (suc (pairs c)) (pairs c)
      go true h = omega (arith, h)
      go false h = h
  pairs-typed y (inside c e) = ap (λ n. 0 + (n + sum (map (λ f. length f.outer.types) (stack_of P c).items))) (counted-pairs y c e.tag.name) ∙ go (new_name e.tag.name c) (pairs-typed y c)
    where
      go : (b : Bool) → pairs_of P (stack_of P c) ≡ pairs c → 0 + (cond b (suc (length (stack_of P c).top.types)) (length (stack_of P c).top.types) + sum (map (λ f. length f.outer.types) (stack_of P c).items)) ≡ cond b (suc (pairs c)) (pairs c)
      go true h = omega (arith, h)
      go false h = omega (arith, h)

  pairs-untyped : types_counted ≡ false → (c : Where A) → pairs_of P (stack_of P c) ≡ 0
  pairs-untyped y start = refl
  pairs-untyped y (after c e) = ap (λ b. length (cond b (count_name e.tag.name (stack_of P c).top.types) (stack_of P c).top.types) + sum (map (λ f. length f.outer.types) (stack_of P c).items)) y ∙ pairs-untyped y c
  pairs-untyped y (inside c e) = let h = pairs-untyped y c in ap (λ b. 0 + (length (cond b (count_name e.tag.name (stack_of P c).top.types) (stack_of P c).top.types) + sum (map (λ f. length f.outer.types) (stack_of P c).items))) y ∙ omega (arith, h)

  pairs-said : (c : Where A) → pairs_of P (stack_of P c) ≡ cond types_counted (pairs c) 0
  pairs-said c = go types_counted refl
    where
      go : (b : Bool) → types_counted ≡ b → pairs_of P (stack_of P c) ≡ cond b (pairs c) 0
      go true y = pairs-typed y c
      go false y = pairs-untyped y c

  module _ (trees : TreeShaped roots hung) where
    pub gives : (s : Placed A) → Givers P (givers_of s) s
    gives s = (
      bearing roots hung child (hits_of P s),
      refl,
      distinct-keep (λ n. full (hung child n)) (hits_of P s) (hits-once roots hung trees (address_holds P) s).0,
      λ n. (
        (λ h. let (m, t) = keep-mem (λ n. full (hung child n)) (hits_of P s) h in ((hits-iff roots hung (address_holds P) s n).0 m, t)),
        (λ (m, t). mem-keep (λ n. full (hung child n)) (hits_of P s) ((hits-iff roots hung (address_holds P) s n).1 m) t),
      ),
    )

    all_give : (ss : List (Placed A)) → Pairs (Givers P) (map givers_of ss) ss
    all_give [] = no_pair
    all_give (s ∷ ss) = pair (gives s) (all_give ss)

    -- What the machine weighs is the load of the document.
    pub loads : (c : Where A) (t : Tag) → Loads P c t (weigh P (stack_of P c) t)
    loads c t = (
      map givers_of (opened c),
      all_give (opened c),
      λ i. record { children = children-before P c i; new_pair = new-before c t.name i; pairs = pairs-said c i; opens = open-count c i; givers = sum (givers-count c i) },
    )
