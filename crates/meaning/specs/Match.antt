-- Which nodes match an element (01, section 4), and that this is W3C's matching of the selectors that lead to the nodes.
use Rattle.std.specs.Prelude.{◌≡◌, ◌⊎◌, List, Bool, T}
use Rattle.meaning.specs.Lists.{◌∈◌, Distinct}
use Rattle.meaning.specs.Document.{Link, Place, Spot, reach}
use Rattle.meaning.specs.Selectors.{Complex, only, then}

-- Nodes, whatever they are: the roots, and what hangs from a node by each link. `holds` tells whether all tests of a node hold for an element.
module _ {N E : Type 0} (roots : List N) (hung : Link → N → List N) (holds : N → Spot E → Bool) where
  -- A node matches an element when all its tests hold and it is a root, or hangs by a link from a node that matches an element which the link reaches.
  pub data Matches : N → Spot E → Type 0 where
    root : {n : N} {s : Spot E} → n ∈ roots → T (holds n s) → Matches n s
    hangs : {n m : N} {s r : Spot E} (l : Link) → r ∈ reach l s.at → Matches m r → n ∈ hung l m → T (holds n s) → Matches n s

  -- A node is live at a place when it is a root, or hangs so from a node that matches (01, section 3, machine).
  abbrev pub Live : N → Place E → Type 0
  Live n c = (n ∈ roots) ⊎ ((l : Link) × (m : N) × (r : Spot E) × (r ∈ reach l c) × Matches m r × (n ∈ hung l m))

module _ {N : Type 0} (roots : List N) (hung : Link → N → List N) where
  -- A way to a node: from a root, link by link.
  pub data Way : N → Type 0 where
    at_root : {n : N} → n ∈ roots → Way n
    by : {m n : N} → Way m → (l : Link) → n ∈ hung l m → Way n

  module _ {S : Type 0} (compound : N → List S) where
    -- The complex selector of a way: the root's compound, then each link and the compound to which it leads.
    abbrev pub selector : {n : N} → Way n → Complex S
    selector {n} (at_root h) = only (compound n)
    selector {n} (by way l h) = then (selector way) l (compound n)

  -- The nodes form trees: a node is a root, or hangs from one node by one link; and it stands there once.
  pub record TreeShaped : Type 0 where
    pub roots_once : Distinct roots
    pub hung_once : {m : N} → Way m → (l : Link) → Distinct (hung l m)
    pub no_root : {m n : N} → Way m → (l : Link) → n ∈ hung l m → ¬ (n ∈ roots)
    pub one_parent : {m k n : N} → Way m → Way k → (l j : Link) → n ∈ hung l m → n ∈ hung j k → (l ≡ j) × (m ≡ k)
