-- Addresses that hang as the layout of a forest says form trees: a way leads to each, and no two ways have different parents.
use Rattle.std.specs.Prelude.{◌≡◌, refl, ◌⊎◌, List, Bool, true, false, ltb, length, ◌+◌, ◌≤◌, ℕ, suc, ◌<◌}
use Rattle.std.proofs.Common.{inl, inr, ltb-true, ltb-false}
use Rattle.std.proofs.Math.Logic.{⊎_elim}
use Rattle.std.proofs.Math.Option.{none, some}
use Rattle.std.proofs.lemmas.Bool.{false≢true}
use native.Mathlib.Omega.{arith}
use Rattle.meaning.specs.Lists.{◌∈◌, here, there, Distinct}
use Rattle.meaning.specs.Document.{Link, child, descendant}
use Rattle.meaning.specs.Trees.{Forest, end, tree, width, size}
use Rattle.meaning.specs.Layout.{Instruction, layout, block, below, begins, ends, ranges, fetch, Stands}
use Rattle.meaning.proofs.LayoutLaws.{stands-split, stands_self, length-block, length-below, length_three, length-layout}
use Rattle.meaning.specs.Match.{Way, at_root, by, TreeShaped}
use Rattle.meaning.proofs.Spans.{span, distinct-span, span-mem}
use Rattle.meaning.proofs.Owners.{own, Good, owners, layout-owned, owned-mem, fetch-below}

before-or-not : (x m : ℕ) → (x < m) ⊎ (m ≤ x)
before-or-not x m = go (ltb x m) refl
  where
    go : (b : Bool) → ltb x m ≡ b → (x < m) ⊎ (m ≤ x)
    go true e = inl (ltb-true x m e)
    go false e = inr (ltb-false x m e)

module _ {D : Type 0} (f : Forest D) (roots : List ℕ) (hung : Link → ℕ → List ℕ)
    (roots-laid : roots ≡ span 0 (width f))
    (hung-laid : (a : ℕ) (i : Instruction D) → fetch (layout 0 f) a ≡ some i → (l : Link) → hung l a ≡ span (i.range l).first (i.range l).count) where
  -- An address with its instruction, whose ranges are its own.
  abbrev pub Whole : ℕ → Type 0
  Whole a = Good (layout 0 f) (owners 0 none f) a

  root-owned : (a : ℕ) → a ∈ roots → (fetch (owners 0 none f) a ≡ some none) × Whole a
  root-owned a h = owned-mem (layout 0 f) (owners 0 none f) f 0 none (layout-owned f) a (rw roots-laid at h)

  hung-owned : (m : ℕ) → Whole m → (l : Link) (n : ℕ) → n ∈ hung l m → (fetch (owners 0 none f) n ≡ some (some (own m l))) × Whole n
  hung-owned m g l n h = owned-mem (layout 0 f) (owners 0 none f) (g.below l) (g.instruction.range l).first (some (own m l)) (g.mine l).1 n (rw (hung-laid m g.instruction g.there_is l, (g.mine l).0) at h)

  pub way-whole : (a : ℕ) → Way roots hung a → Whole a
  way-whole a (at_root h) = (root-owned a h).1
  way-whole a (by {m = m} way l h) = (hung-owned m (way-whole m way) l a h).1

  root-and-owned : (n m : ℕ) (l : Link) → fetch (owners 0 none f) n ≡ some none → fetch (owners 0 none f) n ≡ some (some (own m l)) → ⊥
  root-and-owned n m l e e' = let q : false ≡ true = cc in false≢true q

  one-owner : (n m k : ℕ) (l j : Link) → fetch (owners 0 none f) n ≡ some (some (own m l)) → fetch (owners 0 none f) n ≡ some (some (own k j)) → (l ≡ j) × (m ≡ k)
  one-owner n m k l j e e' = (cc, cc)

  hung-distinct : (m : ℕ) → Whole m → (l : Link) → Distinct (hung l m)
  hung-distinct m g l = rw (hung-laid m g.instruction g.there_is l) (distinct-span (g.instruction.range l).first (g.instruction.range l).count)

  -- Addresses form trees.
  pub laid-shaped : TreeShaped roots hung
  laid-shaped = record {
    roots_once = rw roots-laid (distinct-span 0 (width f));
    hung_once = λ {m} way l. hung-distinct m (way-whole m way) l;
    no_root = λ {m} {n} way l h k. root-and-owned n m l (root-owned n k).0 (hung-owned m (way-whole m way) l n h).0;
    one_parent = λ {m} {k} {n} v w l j h h'. one-owner n m k l j (hung-owned m (way-whole m v) l n h).0 (hung-owned k (way-whole k w) j n h').0;
  }

  -- They are below the number of nodes.
  pub way-below : (a : ℕ) → Way roots hung a → a < size f
  way-below a way = let g = way-whole a way in let h = fetch-below (layout 0 f) a g.instruction g.there_is in rw length-layout at h

  -- And to each address below that a way leads.
  ways-step : (b : ℕ) (g : Forest D) → ((a m : ℕ) → Stands (layout 0 f) a (block m g) → Stands (layout 0 f) m (below m g) → ((x : ℕ) → x ∈ span a (width g) → Way roots hung x) → (x : ℕ) → m ≤ x → x < m + length (below m g) → Way roots hung x)
      → Stands (layout 0 f) b (layout b g) → ((x : ℕ) → x ∈ span b (width g) → Way roots hung x) → (x : ℕ) → b ≤ x → x < b + size g → Way roots hung x
  ways-step b g ih st ws x lo hi =
      let (u, v) = stands-split (layout 0 f) b (block (b + width g) g) (below (b + width g) g) st in
      let l = length-below (b + width g) g in
      ⊎_elim (λ h. ws x (span-mem b (width g) x lo h)) (λ h. ih b (b + width g) u (rw length-block at v) ws x h (omega arith)) (before-or-not x (b + width g))

  ways-out : (g : Forest D) (a m : ℕ) → Stands (layout 0 f) a (block m g) → Stands (layout 0 f) m (below m g) → ((x : ℕ) → x ∈ span a (width g) → Way roots hung x) → (x : ℕ) → m ≤ x → x < m + length (below m g) → Way roots hung x
  unfolding Stands below
  ways-out end a m st bl ws x lo hi = absurd (let z : ⊥ = omega arith in z)
  ways-out (tree d k g) a m st bl ws x lo hi =
      let (h₁, r₁) = stands-split (layout 0 f) m (layout (begins m k child) (k child)) _ bl in
      let (h₂, r₂) = stands-split (layout 0 f) _ (layout (begins m k descendant) (k descendant)) _ (rw length-layout at r₁) in
      let hangs : (l : Link) (y : ℕ) → y ∈ span (begins m k l) (width (k l)) → Way roots hung y = λ l y h. by {m = a} {n = y} (ws a (here refl)) l (rw (hung-laid a (record { says = d; range = ranges m k }) st.0 l) h) in
      let e₁ = length-layout (begins m k child) (k child) in
      let e₂ = length-layout (begins m k descendant) (k descendant) in
      let e = length_three (layout (begins m k child) (k child)) (layout (begins m k descendant) (k descendant)) (below (ends m k) g) in
      ⊎_elim (λ q. ways-step (begins m k child) (k child) (ways-out (k child)) h₁ (hangs child) x lo q)
      (λ q. ⊎_elim (λ r. ways-step (begins m k descendant) (k descendant) (ways-out (k descendant)) h₂ (hangs descendant) x q r)
      (λ r. ways-out g (suc a) (ends m k) st.1 (rw length-layout at r₂) (λ y h. ws y (there h)) x r (omega arith))
      (before-or-not x (ends m k)))
      (before-or-not x (m + size (k child)))

  pub every_way : (a : ℕ) → a < size f → Way roots hung a
  every_way a h = ways-step 0 f (ways-out f) (stands_self (layout 0 f)) (λ x m. at_root (rw roots-laid m)) a (omega arith) (omega arith)
