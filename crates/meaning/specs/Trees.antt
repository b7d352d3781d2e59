-- Selector trees (01, section 1: a node, its child trees, its descendant trees, then the next).
use Rattle.std.specs.Prelude.{List, [], ◌∷◌, Bool, false, ◌||◌, ℕ, zero, suc, ◌+◌}
use Rattle.meaning.specs.Document.{Link, child, descendant}

-- Sibling trees: what the first tree's node says, the trees that hang from it by each link, and its later siblings.
pub data Forest (D : Type 0) : Type 0 where
  end : Forest D
  tree : D → (Link → Forest D) → Forest D → Forest D

-- One node of a forest, with the trees that hang from it.
pub record Node (D : Type 0) : Type 0 where
  pub says : D
  pub below : Link → Forest D

module _ {D : Type 0} where
  -- The root nodes of a forest.
  abbrev pub nodes : Forest D → List (Node D)
  nodes end = []
  nodes (tree d k f) = record { says = d; below = k } ∷ nodes f

  -- The nodes that hang from a node by a link.
  abbrev pub hung : Link → Node D → List (Node D)
  hung l n = nodes (n.below l)

  -- How many root nodes there are.
  abbrev pub width : Forest D → ℕ
  width end = 0
  width (tree d k f) = suc (width f)

  -- How many nodes there are in all.
  unfoldable pub size : Forest D → ℕ
  size end = 0
  size (tree d k f) = suc (size (k child) + size (k descendant) + size f)

  -- Some node of the forest says what passes a test.
  abbrev pub some_node : (D → Bool) → Forest D → Bool
  some_node p end = false
  some_node p (tree d k f) = p d || (some_node p (k child) || (some_node p (k descendant) || some_node p f))

  -- No node is deeper than n, the roots being at depth 1.
  unfoldable pub Within : ℕ → Forest D → Type 0
  Within n end = Unit
  Within zero (tree d k f) = ⊥
  Within (suc n) (tree d k f) = ((l : Link) → Within n (k l)) × Within (suc n) f
