-- What a compiled store says: each instruction's words at its address, all else as it was.
use Prim.Native.Nat.{ℕ, zero, suc, ◌+◌, ◌-◌, ◌*◌, ◌/◌, ◌≤◌, ◌<◌}
use Rattle.std.proofs.Math.Path.{◌≡◌}
use Rattle.std.specs.Prelude.{refl, length, get_or, drop}
use Rattle.std.proofs.Common.{sym, ap, ◌∙◌, arith, length-append, get_or-append-add, get_or-drop}
use Rattle.std.proofs.Math.Option.{Option, none, some}
use mathlib.Core.List.{List, [], ◌∷◌, ◌++◌}
use Rattle.std.proofs.Math.ListN.{get_or-append}
use Rattle.std.proofs.lemmas.List.Edits.{sets, sets-eq}
use Rattle.std.proofs.Math.Seq.{length-sets}
use Rattle.meaning.specs.Document.{Link, child, descendant, by_link}
use Rattle.meaning.specs.Trees.{Forest, end, tree, width, size}
use Rattle.meaning.specs.Layout.{Instruction, begins, ends, block, below, layout, fetch}
use Rattle.meaning.proofs.LayoutLaws.{length-layout}
use Rattle.node_records.specs.Records.{NodeRecord, record_at}
use Rattle.sheet.specs.Spelling.{Inside, Spells}
use Rattle.program.specs.Program.{words, row, rows}

-- ---- rows in a store

pub length-row : (i : Instruction NodeRecord) → length (row i) ≡ 8
unfolding row words
length-row i = refl

pub length-rows : (xs : List (Instruction NodeRecord)) → length (rows xs) ≡ length xs * 8
unfolding rows
length-rows [] = refl
length-rows (i ∷ xs) = let h = length-rows xs in let r = length-row i in rw length-append (omega arith)

-- Word j of the instruction at an address, in rows one after the other.
rows-word : (xs : List (Instruction NodeRecord)) (a j : ℕ) (i : Instruction NodeRecord) → fetch xs a ≡ some i → j < 8 → (get_or (rows xs) (a * 8 + j) 0 ≡ get_or (row i) j 0) × (a < length xs)
unfolding rows
rows-word [] a j i e h = (cc, absurd (nothing e))
  where
    nothing : {A : Type 0} {x : A} → ◌≡◌ {A = Option A} none (some x) → ⊥
    nothing e = let z : ◌≡◌ {A = ℕ} 0 1 = cc in omega arith
rows-word (x ∷ xs) zero j i e h =
    let r = length-row x in let k : j < length (row x) = omega arith in let y : x ≡ i = cc in let z : 0 * 8 + j ≡ j = omega arith in
    (rw (z, ← y) (get_or-append (row x) (rows xs) 0 j k), omega arith)
rows-word (x ∷ xs) (suc a) j i e h =
    let q = rows-word xs a j i e h in let r = length-row x in
    let k : suc a * 8 + j ≡ length (row x) + (a * 8 + j) = omega arith in
    (rw k (get_or-append-add (row x) (rows xs) (a * 8 + j) 0 ∙ q.0), let l = q.1 in omega arith)

module _ (f : Forest NodeRecord) (store : List ℕ) (room : size f ≤ length store / 8) where
  abbrev compiled : List ℕ
  compiled = sets store 0 (rows (layout 0 f))

  fits : length (rows (layout 0 f)) ≤ length store
  fits = let a = length-rows (layout 0 f) in let b = length-layout 0 f in omega arith

  parted : compiled ≡ rows (layout 0 f) ++ drop (length (rows (layout 0 f))) store
  parted = let h = fits in let z : 0 + length (rows (layout 0 f)) ≡ length (rows (layout 0 f)) = omega arith in
      let w : 0 + length (rows (layout 0 f)) ≤ length store = omega arith in rw z at (sets-eq (rows (layout 0 f)) store 0 w)

  -- The words of each instruction stand at its address.
  pub instruction-word : (a j : ℕ) (i : Instruction NodeRecord) → fetch (layout 0 f) a ≡ some i → j < 8 → get_or compiled (a * 8 + j) 0 ≡ get_or (row i) j 0
  instruction-word a j i e h =
      let q = rows-word (layout 0 f) a j i e h in let q1 = q.1 in
      let l = length-rows (layout 0 f) in
      let k : a * 8 + j < length (rows (layout 0 f)) = omega arith in
      rw parted (get_or-append (rows (layout 0 f)) (drop (length (rows (layout 0 f))) store) 0 (a * 8 + j) k ∙ q.0)

  -- Words past N places are untouched.
  pub past_word : (p : ℕ) → size f * 8 ≤ p → get_or compiled p 0 ≡ get_or store p 0
  past_word p h =
      let l = length-rows (layout 0 f) in let m = length-layout 0 f in
      let (n, e) = rest in
      rw (parted, e) (get_or-append-add (rows (layout 0 f)) (drop (length (rows (layout 0 f))) store) n 0 ∙ get_or-drop (length (rows (layout 0 f))) store n 0)
    where
      rest : (n : ℕ) × (p ≡ length (rows (layout 0 f)) + n)
      rest = (p - length (rows (layout 0 f)), let l = length-rows (layout 0 f) in let m = length-layout 0 f in omega arith)

  -- The store keeps its length.
  pub same_length : length compiled ≡ length store
  same_length = length-sets store 0 (rows (layout 0 f))

-- ---- nodes of a forest, and instructions of its layout

-- Every node of a forest has a property.
unfoldable pub Every : (NodeRecord → Type 0) → Forest NodeRecord → Type 0
Every P end = Unit
Every P (tree node k f) = P node × (((l : Link) → Every P (k l)) × Every P f)

-- Every instruction of a list says so of its node.
unfoldable Says : (NodeRecord → Type 0) → List (Instruction NodeRecord) → Type 0
Says P [] = Unit
Says P (i ∷ xs) = P i.says × Says P xs

module _ (P : NodeRecord → Type 0) where
  says-append : (xs ys : List (Instruction NodeRecord)) → Says P xs → Says P ys → Says P (xs ++ ys)
  unfolding Says
  says-append [] ys a b = b
  says-append (i ∷ xs) ys a b = (a.0, says-append xs ys a.1 b)

  says-fetch : (xs : List (Instruction NodeRecord)) (a : ℕ) (i : Instruction NodeRecord) → Says P xs → fetch xs a ≡ some i → P i.says
  unfolding Says
  says-fetch [] a i h e = let z : ◌≡◌ {A = ℕ} 0 1 = cc in absurd (omega arith)
  says-fetch (x ∷ xs) zero i h e = let y : x ≡ i = cc in rw y at h.0
  says-fetch (x ∷ xs) (suc a) i h e = says-fetch xs a i h.1 e

  says-block : (m : ℕ) (f : Forest NodeRecord) → Every P f → Says P (block m f)
  unfolding Every Says
  says-block m end h = tt
  says-block m (tree node k f) h = (h.0, says-block (ends m k) f h.1.1)

  says-below : (m : ℕ) (f : Forest NodeRecord) → Every P f → Says P (below m f)
  unfolding Every Says below
  says-below m end h = tt
  says-below m (tree node k f) h =
      let c = begins m k child + width (k child) in let d = begins m k descendant + width (k descendant) in
      says-append (layout (begins m k child) (k child)) _ (says-append (block c (k child)) _ (says-block c (k child) (h.1.0 child)) (says-below c (k child) (h.1.0 child)))
      (says-append (layout (begins m k descendant) (k descendant)) _ (says-append (block d (k descendant)) _ (says-block d (k descendant) (h.1.0 descendant)) (says-below d (k descendant) (h.1.0 descendant)))
      (says-below (ends m k) f h.1.1))

  -- What every node has, every instruction of the layout has.
  pub layout-says : (f : Forest NodeRecord) → Every P f → (a : ℕ) (i : Instruction NodeRecord) → fetch (layout 0 f) a ≡ some i → P i.says
  layout-says f h a i e = says-fetch (layout 0 f) a i (says-append (block (0 + width f) f) _ (says-block (0 + width f) f h) (says-below (0 + width f) f h)) e

-- A node is what the sheet's bytes say at its place.
pub record Recorded (s : List ℕ) (node : NodeRecord) : Type 0 where
  pub is : node ≡ record_at s node.place
  pub inside : Inside s node.place

recorded : (s : List ℕ) (at : ℕ) (node : NodeRecord) → node ≡ record_at s at → Inside s at → Recorded s node
unfolding record_at
recorded s at node e i = let p : node.place ≡ at = ap (λ (n : NodeRecord). n.place) e in record { is = e ∙ ap (record_at s) (sym p); inside = rw p i }

-- Every node of a good sheet is.
pub spelt-recorded : {s : List ℕ} {depth n at m : ℕ} {f : Forest NodeRecord} → Spells s depth n at f m → Every (Recorded s) f
unfolding Every
spelt-recorded (Spells.none a b) = tt
spelt-recorded {s} {at = at} (Spells.more {node = node} {below = k} p q hn hd en i tc td tn) =
    (recorded s at node en i, (by_link (λ l. Every (Recorded s) (k l)) (spelt-recorded tc) (spelt-recorded td), spelt-recorded tn))
