-- The laws of a layout: as many instructions as nodes, and it reads back its forest.
use Rattle.std.specs.Prelude.{◌≡◌, length, ℕ, suc, ◌+◌}
use Rattle.std.proofs.Math.Path.{refl}
use Rattle.std.proofs.Common.{ap, ◌∙◌, length-append, arith, add-suc}
use mathlib.Core.List.{List, [], ◌∷◌, ◌++◌}
use Rattle.std.proofs.Math.Nat.{add-zero, suc-add}
use Rattle.meaning.specs.Document.{child, descendant, by_link}
use Rattle.meaning.specs.Trees.{Forest, end, tree, width, size}
use Rattle.meaning.specs.Layout.{Instruction, begins, ends, ranges, block, below, layout, Stands, Laid}

-- ---- The laws: as many instructions as nodes, and a layout reads back its forest.

module _ {A : Type 0} where
  pub stands-split : (p : List A) (a : ℕ) (xs ys : List A) → Stands p a (xs ++ ys) → Stands p a xs × Stands p (a + length xs) ys
  unfolding Stands
  stands-split p a [] ys h = (tt, rw add-zero h)
  stands-split p a (x ∷ xs) ys h = let (u, v) = stands-split p (suc a) xs ys h.1 in ((h.0, u), rw (add-suc a (length xs), ← suc-add a (length xs)) v)

  stands-shift : (x : A) (p : List A) (a : ℕ) (ys : List A) → Stands p a ys → Stands (x ∷ p) (suc a) ys
  unfolding Stands
  stands-shift x p a [] h = tt
  stands-shift x p a (y ∷ ys) h = (h.0, stands-shift x p (suc a) ys h.1)

  pub stands_self : (p : List A) → Stands p 0 p
  unfolding Stands
  stands_self [] = tt
  stands_self (x ∷ p) = (refl, stands-shift x p 0 p (stands_self p))

module _ {D : Type 0} where
  pub length-block : (m : ℕ) (f : Forest D) → length (block m f) ≡ width f
  length-block m end = refl
  length-block m (tree d k f) = ap suc (length-block (ends m k) f)

  length-joined : (m : ℕ) (f : Forest D) → width f + length (below m f) ≡ size f → length (block m f ++ below m f) ≡ size f
  length-joined m f h = length-append (block m f) (below m f) ∙ ap (λ x. x + length (below m f)) (length-block m f) ∙ h

  pub length_three : (a b c : List (Instruction D)) → length (a ++ (b ++ c)) ≡ length a + (length b + length c)
  length_three a b c = simp length-append

  pub length-below : (m : ℕ) (f : Forest D) → width f + length (below m f) ≡ size f
  unfolding size below
  length-below m end = refl
  length-below m (tree d k f) =
      let m₁ = begins m k child + width (k child) in
      let m₂ = begins m k descendant + width (k descendant) in
      let h₁ = length-joined m₁ (k child) (length-below m₁ (k child)) in
      let h₂ = length-joined m₂ (k descendant) (length-below m₂ (k descendant)) in
      let h₃ = length-below (ends m k) f in
      rw (length_three (block m₁ (k child) ++ below m₁ (k child)) (block m₂ (k descendant) ++ below m₂ (k descendant)) (below (ends m k) f), h₁, h₂) (omega (arith, h₃))

  -- As many instructions as nodes.
  pub length-layout : (b : ℕ) (f : Forest D) → length (layout b f) ≡ size f
  length-layout b f = length-joined (b + width f) f (length-below (b + width f) f)

  laid-step : (p : List (Instruction D)) (b : ℕ) (f : Forest D) → ((a m : ℕ) → Stands p a (block m f) → Stands p m (below m f) → Laid p a f) → Stands p b (layout b f) → Laid p b f
  laid-step p b f ih h = let (u, v) = stands-split p b (block (b + width f) f) (below (b + width f) f) h in ih b (b + width f) u (rw length-block at v)

  pub laid_out : (p : List (Instruction D)) (f : Forest D) (a m : ℕ) → Stands p a (block m f) → Stands p m (below m f) → Laid p a f
  unfolding Stands Laid below
  laid_out p end a m g h = tt
  laid_out p (tree d k f) a m g h =
      let (h₁, r₁) = stands-split p m (layout (begins m k child) (k child)) _ h in
      let (h₂, r₂) = stands-split p _ (layout (begins m k descendant) (k descendant)) _ (rw length-layout at r₁) in (
        record { says = d; range = ranges m k },
        g.0,
        refl,
        (λ l. (refl, laid-step p (begins m k l) (k l) (laid_out p (k l)) (by_link (λ x. Stands p (begins m k x) (layout (begins m k x) (k x))) h₁ h₂ l))),
        laid_out p f (suc a) (ends m k) g.1 (rw length-layout at r₂),
      )

  -- A layout reads back its forest.
  pub layout-laid : (f : Forest D) → Laid (layout 0 f) 0 f
  layout-laid f = laid-step (layout 0 f) 0 f (laid_out (layout 0 f) f) (stands_self (layout 0 f))
