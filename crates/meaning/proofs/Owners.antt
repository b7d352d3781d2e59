-- Whose each address of a layout is: each hangs from one address by one link, or is a root.
use Rattle.std.specs.Prelude.{◌≡◌, List, [], ◌∷◌, ◌++◌, true, false, length, ℕ, zero, suc, ◌+◌, ◌<◌}
use Rattle.std.proofs.Math.Path.{refl}
use Rattle.std.proofs.Common.{ap, ◌∙◌, length-append, arith}
use Rattle.std.proofs.Math.Option.{Option, none, some}
use Rattle.std.proofs.lemmas.Bool.{false≢true}
use Rattle.meaning.specs.Lists.{◌∈◌, here, there}
use Rattle.meaning.proofs.Spans.{span}
use Rattle.meaning.specs.Document.{Link, child, descendant, by_link}
use Rattle.meaning.specs.Trees.{Forest, end, tree, width, size}
use Rattle.meaning.specs.Layout.{Instruction, begins, ends, ranges, block, below, layout, fetch, Stands}
use Rattle.meaning.proofs.LayoutLaws.{length-block, length-layout, stands-split, stands_self}

pub fetch-below : {X : Type 0} (xs : List X) (a : ℕ) (x : X) → fetch xs a ≡ some x → a < length xs
fetch-below [] a x e = let q : false ≡ true = cc in absurd (false≢true q)
fetch-below (y ∷ ys) zero x e = omega arith
fetch-below (y ∷ ys) (suc a) x e = let h = fetch-below ys a x e in omega arith

-- The address and the link from which an address hangs; none for roots.
pub data Owner : Type 0 where
  own : ℕ → Link → Owner

length_three : (a b c : List (Option Owner)) → length (a ++ (b ++ c)) ≡ length a + (length b + length c)
length_three a b c = simp length-append

module _ {D : Type 0} where
  -- A list of owners in the order of a layout: of a block, if o owns it; of what is below a block that stands at a; of both.
  abbrev pub block_owners : Option Owner → Forest D → List (Option Owner)
  block_owners o end = []
  block_owners o (tree d k f) = o ∷ block_owners o f

  unfoldable pub below_owners : ℕ → ℕ → Forest D → List (Option Owner)
  below_owners a m end = []
  below_owners a m (tree d k f) =
      (block_owners (some (own a child)) (k child) ++ below_owners (begins m k child) (begins m k child + width (k child)) (k child))
      ++ ((block_owners (some (own a descendant)) (k descendant) ++ below_owners (begins m k descendant) (begins m k descendant + width (k descendant)) (k descendant))
      ++ below_owners (suc a) (ends m k) f)

  abbrev pub owners : ℕ → Option Owner → Forest D → List (Option Owner)
  owners b o f = block_owners o f ++ below_owners b (b + width f) f

  length-block-owners : (o : Option Owner) (f : Forest D) → length (block_owners o f) ≡ width f
  length-block-owners o end = refl
  length-block-owners o (tree d k f) = ap suc (length-block-owners o f)

  length-joined : (o : Option Owner) (a m : ℕ) (f : Forest D) → width f + length (below_owners a m f) ≡ size f → length (block_owners o f ++ below_owners a m f) ≡ size f
  length-joined o a m f h = length-append (block_owners o f) (below_owners a m f) ∙ ap (λ x. x + length (below_owners a m f)) (length-block-owners o f) ∙ h

  length-below-owners : (a m : ℕ) (f : Forest D) → width f + length (below_owners a m f) ≡ size f
  unfolding size below_owners
  length-below-owners a m end = refl
  length-below-owners a m (tree d k f) =
      let h₁ = length-joined (some (own a child)) _ _ (k child) (length-below-owners (begins m k child) (begins m k child + width (k child)) (k child)) in
      let h₂ = length-joined (some (own a descendant)) _ _ (k descendant) (length-below-owners (begins m k descendant) (begins m k descendant + width (k descendant)) (k descendant)) in
      let h₃ = length-below-owners (suc a) (ends m k) f in
      rw (length_three (owners (begins m k child) (some (own a child)) (k child)) (owners (begins m k descendant) (some (own a descendant)) (k descendant)) (below_owners (suc a) (ends m k) f), h₁, h₂) (omega (arith, h₃))

  length-owners : (b : ℕ) (o : Option Owner) (f : Forest D) → length (owners b o f) ≡ size f
  length-owners b o f = length-joined o b (b + width f) f (length-below-owners b (b + width f) f)

  module _ (p : List (Instruction D)) (O : List (Option Owner)) where
    -- The forest is laid out in p from the block at a on, and O says that o owns the block.
    unfoldable pub Owned : ℕ → Option Owner → Forest D → Type 0
    Owned a o end = Unit
    Owned a o (tree d k f) = (fetch O a ≡ some o) × ((i : Instruction D) × (fetch p a ≡ some i) × ((l : Link) → ((i.range l).count ≡ width (k l)) × Owned (i.range l).first (some (own a l)) (k l))) × Owned (suc a) o f

    owned-step : (b : ℕ) (o : Option Owner) (f : Forest D) → ((a m : ℕ) (u : Option Owner) → Stands p a (block m f) → Stands p m (below m f) → Stands O a (block_owners u f) → Stands O m (below_owners a m f) → Owned a u f)
        → Stands p b (layout b f) → Stands O b (owners b o f) → Owned b o f
    owned-step b o f ih g h =
        let (u, v) = stands-split p b (block (b + width f) f) (below (b + width f) f) g in
        let (x, y) = stands-split O b (block_owners o f) (below_owners b (b + width f) f) h in
        ih b (b + width f) o u (rw length-block at v) x (rw length-block-owners at y)

    owned-out : (f : Forest D) (a m : ℕ) (o : Option Owner) → Stands p a (block m f) → Stands p m (below m f) → Stands O a (block_owners o f) → Stands O m (below_owners a m f) → Owned a o f
    unfolding Stands Owned below below_owners
    owned-out end a m o g h u v = tt
    owned-out (tree d k f) a m o g h u v =
        let (h₁, r₁) = stands-split p m (layout (begins m k child) (k child)) _ h in
        let (h₂, r₂) = stands-split p _ (layout (begins m k descendant) (k descendant)) _ (rw length-layout at r₁) in
        let (v₁, w₁) = stands-split O m (owners (begins m k child) (some (own a child)) (k child)) _ v in
        let (v₂, w₂) = stands-split O _ (owners (begins m k descendant) (some (own a descendant)) (k descendant)) _ (rw length-owners at w₁) in (
          u.0,
          (
            record { says = d; range = ranges m k },
            g.0,
            λ l. (
              refl,
              owned-step (begins m k l) (some (own a l)) (k l) (owned-out (k l))
                  (by_link (λ x. Stands p (begins m k x) (layout (begins m k x) (k x))) h₁ h₂ l)
                  (by_link (λ x. Stands O (begins m k x) (owners (begins m k x) (some (own a x)) (k x))) v₁ v₂ l),
            ),
          ),
          owned-out f (suc a) (ends m k) o g.1 (rw length-layout at r₂) u.1 (rw length-owners at w₂),
        )

    -- An address that has an instruction, whose ranges are its own.
    pub record Good (a : ℕ) : Type 0 where
      pub instruction : Instruction D
      pub there_is : fetch p a ≡ some instruction
      pub below : Link → Forest D
      pub mine : (l : Link) → ((instruction.range l).count ≡ width (below l)) × Owned (instruction.range l).first (some (own a l)) (below l)

    pub owned-mem : (f : Forest D) (a : ℕ) (o : Option Owner) → Owned a o f → (b : ℕ) → b ∈ span a (width f) → (fetch O b ≡ some o) × Good b
    unfolding Owned
    owned-mem (tree d k f) a o (e, (i, t, m), r) b (here q) = rw q (e, record { instruction = i; there_is = t; below = k; mine = m })
    owned-mem (tree d k f) a o (e, g, r) b (there h) = owned-mem f (suc a) o r b h
    owned-mem end a o _ b x3 = elim x3 [ ]

  -- Every layout is owned so.
  pub layout-owned : (f : Forest D) → Owned (layout 0 f) (owners 0 none f) 0 none f
  layout-owned f = owned-step (layout 0 f) (owners 0 none f) 0 none f (owned-out (layout 0 f) (owners 0 none f) f) (stands_self (layout 0 f)) (stands_self (owners 0 none f))
