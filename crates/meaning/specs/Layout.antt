-- Where the nodes of a forest stand in a list of instructions (01, section 3, compiler).
use Rattle.std.specs.Prelude.{◌≡◌, ℕ, zero, suc, ◌+◌}
use Rattle.std.proofs.Math.Option.{Option, none, some}
use mathlib.Core.List.{List, [], ◌∷◌, ◌++◌}
use Rattle.meaning.specs.Document.{Link, child, descendant}
use Rattle.meaning.specs.Trees.{Forest, end, tree, width, size}

-- Neighbouring addresses; none if the count is 0.
pub record Range : Type 0 where
  pub first : ℕ
  pub count : ℕ

-- What a node says, and where the nodes stand that hang from it by each link.
pub record Instruction (D : Type 0) : Type 0 where
  pub says : D
  pub range : Link → Range

module _ {D : Type 0} where
  -- Where the block of each link begins, if the first address that is free is m.
  abbrev pub begins : ℕ → (Link → Forest D) → Link → ℕ
  begins m k child = m
  begins m k descendant = m + size (k child)

  -- The first address that is free after them.
  abbrev pub ends : ℕ → (Link → Forest D) → ℕ
  ends m k = m + size (k child) + size (k descendant)

  -- The ranges of a node from which these trees hang.
  abbrev pub ranges : ℕ → (Link → Forest D) → Link → Range
  ranges m k l = record { first = begins m k l; count = width (k l) }

  -- The block of a forest's root nodes, if what is below them begins at m.
  abbrev pub block : ℕ → Forest D → List (Instruction D)
  block m end = []
  block m (tree d k f) = record { says = d; range = ranges m k } ∷ block (ends m k) f

  -- What is below the block: for each node in turn its child block with all below it, then its descendant block.
  unfoldable pub below : ℕ → Forest D → List (Instruction D)
  below m end = []
  below m (tree d k f) =
      (block (begins m k child + width (k child)) (k child) ++ below (begins m k child + width (k child)) (k child))
      ++ ((block (begins m k descendant + width (k descendant)) (k descendant) ++ below (begins m k descendant + width (k descendant)) (k descendant))
      ++ below (ends m k) f)

  -- A forest laid out from the address b on: a block is reserved for its root nodes, and the rest follows.
  abbrev pub layout : ℕ → Forest D → List (Instruction D)
  layout b f = block (b + width f) f ++ below (b + width f) f

-- What stands at an address.
module _ {A : Type 0} where
  abbrev pub fetch : List A → ℕ → Option A
  fetch [] a = none
  fetch (x ∷ xs) zero = some x
  fetch (x ∷ xs) (suc a) = fetch xs a

  -- The members of a list stand in p, one after the other, from the address a on.
  unfoldable pub Stands : List A → ℕ → List A → Type 0
  Stands p a [] = Unit
  Stands p a (x ∷ xs) = (fetch p a ≡ some x) × Stands p (suc a) xs

module _ {D : Type 0} where
  -- The ranges of p, from the block at the address a on, read back the forest.
  unfoldable pub Laid : List (Instruction D) → ℕ → Forest D → Type 0
  Laid p a end = Unit
  Laid p a (tree d k f) =
      (i : Instruction D) × (fetch p a ≡ some i) × (i.says ≡ d)
      × ((l : Link) → ((i.range l).count ≡ width (k l)) × Laid p (i.range l).first (k l))
      × Laid p (suc a) f
