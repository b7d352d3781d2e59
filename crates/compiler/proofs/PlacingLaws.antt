-- The recursion leaves the layout of the forest; and the room that each call has.
use Prim.Native.Nat.{ℕ, zero, suc, ◌+◌, ◌-◌, ◌*◌, ◌≤◌, ◌<◌}
use mathlib.Core.Path.{◌≡◌, refl, sym, ap, ◌∙◌}
use mathlib.Core.List.{List, ◌++◌}
use native.Mathlib.Numerals.{sub-one}
use native.Mathlib.Omega.{arith}
use lib.ListN.{length}
use lib.Seq.{sets}
use Rattle.meaning.specs.Document.{Link, child, descendant}
use Rattle.meaning.specs.Trees.{Forest, end, tree, width, size}
use Rattle.meaning.specs.Layout.{Instruction, ends, ranges, block, below, layout}
use Rattle.meaning.proofs.LayoutLaws.{length-block, length-layout}
use Rattle.node_records.specs.Records.{NodeRecord, record_at, end_of, child_count, descendant_count}
use Rattle.sheet.specs.Spelling.{Spells}
use Rattle.sheet.proofs.SpellingLaws.{spelt-width}
use Rattle.program.specs.Program.{row, rows, instruction_at}
use Rattle.compiler.specs.StoreLaws.{length-row, length-rows}
use Rattle.compiler.specs.Placing.{Laid, lay_node, lay_many, lay_at, lay_trees}
use Rattle.compiler.proofs.Sets.{sets-append, gather}
use Rattle.program.proofs.RowLaws.{rows_append, row_same}

-- ---- the recursion, one step

module _ (s : List ℕ) (depth : ℕ) where
  pub trees-none : (n at slot free : ℕ) (st : List ℕ) → n ≤ 0 → lay_trees depth s n at slot free st ≡ record { store = st; next = at; free = free }
  unfolding lay_trees lay_many
  trees-none zero at slot free st h = refl
  trees-none (suc n) at slot free st h = absurd (omega arith)

  trees-more : (n at slot free : ℕ) (st : List ℕ) → 0 < n → lay_trees depth s n at slot free st ≡ lay_trees depth s (n - 1) (lay_at depth s at slot free st).next (slot + 1) (lay_at depth s at slot free st).free (lay_at depth s at slot free st).store
  unfolding lay_trees lay_many
  trees-more zero at slot free st h = absurd (omega arith)
  trees-more (suc n) at slot free st h = rw sub-one refl

module _ (s : List ℕ) (depth at slot free : ℕ) (st : List ℕ) where
  -- the child block, and the descendant block
  abbrev pub C : Laid
  C = lay_trees (depth - 1) s (child_count s at) (end_of s at) free (free + child_count s at) st

  abbrev pub D : Laid
  D = lay_trees (depth - 1) s (descendant_count s at) C.next C.free (C.free + descendant_count s at) C.store

pub level : (s : List ℕ) (depth at slot free : ℕ) (st : List ℕ) → 0 < depth → lay_at depth s at slot free st ≡ record { store = sets (D s depth at slot free st).store (slot * 8) (row (instruction_at s at free (C s depth at slot free st).free)); next = (D s depth at slot free st).next; free = (D s depth at slot free st).free }
unfolding lay_at lay_trees lay_node
level s zero at slot free st h = absurd (omega arith)
level s (suc depth) at slot free st h = rw sub-one refl

-- ---- what it leaves

-- how many nodes are below the roots
unfoldable pub beneath : Forest NodeRecord → ℕ
beneath end = 0
beneath (tree node k f) = size (k child) + size (k descendant) + beneath f

pub size_is : (f : Forest NodeRecord) → size f ≡ width f + beneath f
unfolding size beneath
size_is end = refl
size_is (tree node k f) = let h = size_is f in omega arith

-- the block from slot on, what is below it from free on
abbrev emitted : Forest NodeRecord → (slot free : ℕ) → List ℕ → List ℕ
emitted f slot free st = sets (sets st (slot * 8) (rows (block free f))) (free * 8) (rows (below free f))

length-rows-block : (m : ℕ) (f : Forest NodeRecord) → length (rows (block m f)) ≡ width f * 8
length-rows-block m f = length-rows (block m f) ∙ ap (λ (n : ℕ). n * 8) (length-block m f)

length-rows-layout : (b : ℕ) (f : Forest NodeRecord) → length (rows (layout b f)) ≡ size f * 8
length-rows-layout b f = length-rows (layout b f) ∙ ap (λ (n : ℕ). n * 8) (length-layout b f)

pub emitted-layout : (f : Forest NodeRecord) (b free : ℕ) (st : List ℕ) → free ≡ b + width f → emitted f b free st ≡ sets st (b * 8) (rows (layout b f))
emitted-layout f b free st e =
    let l = length-rows-block (b + width f) f in
    let k : b * 8 + length (rows (block (b + width f) f)) ≡ (b + width f) * 8 = omega arith in
    rw e (sym (rw rows_append (sets-append st (b * 8) (rows (block (b + width f) f)) (rows (below (b + width f) f)) ∙ ap (λ (n : ℕ). sets (sets st (b * 8) (rows (block (b + width f) f))) n (rows (below (b + width f) f))) k)))

module _ (node : NodeRecord) (k : Link → Forest NodeRecord) (g : Forest NodeRecord) (slot free : ℕ) (st : List ℕ) where
  abbrev block_of : Instruction NodeRecord
  block_of = record { says = node; range = ranges free k }

  emitted-more : slot + 1 + width g ≤ free → emitted g (slot + 1) (ends free k) (sets (sets (sets st (free * 8) (rows (layout free (k child)))) ((free + size (k child)) * 8) (rows (layout (free + size (k child)) (k descendant)))) (slot * 8) (row block_of)) ≡ emitted (tree node k g) slot free st
  unfolding rows below
  emitted-more h =
      let lc = length-rows-layout free (k child) in
      let ld = length-rows-layout (free + size (k child)) (k descendant) in
      let lr = length-row block_of in
      let lg = length-rows-block (ends free k) g in
      gather st (slot * 8) (free * 8) ((free + size (k child)) * 8) ((slot + 1) * 8) (ends free k * 8) (rows (layout free (k child))) (rows (layout (free + size (k child)) (k descendant))) (row block_of) (rows (block (ends free k) g)) (rows (below (ends free k) g))
      (omega arith) (omega arith) (omega arith) (omega arith)
      ∙ ap (λ (l : List ℕ). sets (sets st (slot * 8) (row block_of ++ rows (block (ends free k) g))) (free * 8) l)
      (ap (λ (l : List ℕ). rows (layout free (k child)) ++ l) (sym (rows_append (layout (free + size (k child)) (k descendant)) (below (ends free k) g)))
      ∙ sym (rows_append (layout free (k child)) (layout (free + size (k child)) (k descendant) ++ below (ends free k) g)))

-- where siblings leave off
pub record Out (l : Laid) (f : Forest NodeRecord) (m slot free : ℕ) (st : List ℕ) : Type 0 where
  pub next_is : l.next ≡ m
  pub free_is : l.free ≡ free + beneath f
  pub store_is : l.store ≡ emitted f slot free st

-- where one node leaves off
pub record Out1 (l : Laid) (node : NodeRecord) (k : Link → Forest NodeRecord) (m slot free : ℕ) (st : List ℕ) : Type 0 where
  pub next_is : l.next ≡ m
  pub free_is : l.free ≡ ends free k
  pub store_is : l.store ≡ sets (sets (sets st (free * 8) (rows (layout free (k child)))) ((free + size (k child)) * 8) (rows (layout (free + size (k child)) (k descendant)))) (slot * 8) (row (record { says = node; range = ranges free k }))

module _ (s : List ℕ) (depth at slot free : ℕ) (st : List ℕ) (deep : 0 < depth) (node : NodeRecord) (k : Link → Forest NodeRecord) (en : node ≡ record_at s at) (wc : width (k child) ≡ child_count s at) (wd : width (k descendant) ≡ descendant_count s at) (p q : ℕ) where
  middle : Out (C s depth at slot free st) (k child) p free (free + child_count s at) st → (C s depth at slot free st).free ≡ free + size (k child)
  middle c = let h = size_is (k child) in let f = c.free_is in omega arith

  node-out : Out (C s depth at slot free st) (k child) p free (free + child_count s at) st →
      Out (D s depth at slot free st) (k descendant) q (C s depth at slot free st).free ((C s depth at slot free st).free + descendant_count s at) (C s depth at slot free st).store →
      Out1 (lay_at depth s at slot free st) node k q slot free st
  node-out c d =
      let m = middle c in let h = size_is (k descendant) in let f = d.free_is in
      let ec = c.store_is ∙ emitted-layout (k child) free (free + child_count s at) st (ap (λ (n : ℕ). free + n) (sym wc)) in
      let ed = d.store_is ∙ emitted-layout (k descendant) (C s depth at slot free st).free ((C s depth at slot free st).free + descendant_count s at) (C s depth at slot free st).store (ap (λ (n : ℕ). (C s depth at slot free st).free + n) (sym wd)) in
      rw (level s depth at slot free st deep) (record { next_is = d.next_is; free_is = omega arith; store_is = (ap (λ (l : List ℕ). sets l (slot * 8) (row (instruction_at s at free (C s depth at slot free st).free))) ed ∙ rw (row_same s at free (C s depth at slot free st).free node k en wc wd m, m, ec) refl) })

pub lay-out : {s : List ℕ} {depth n at m : ℕ} {f : Forest NodeRecord} → Spells s depth n at f m → (at' : ℕ) → at' ≡ at → (slot free : ℕ) → slot + n ≤ free → (st : List ℕ) → Out (lay_trees depth s n at' slot free st) f m slot free st
unfolding beneath rows below
lay-out {s} {depth} {n} {at} {m} (Spells.none e g) at' z slot free h st =
    rw (trees-none s depth n at' slot free st (omega arith)) (record { next_is = z ∙ sym g; free_is = omega arith; store_is = refl })
lay-out {s} {depth} {n} {at} {m} (Spells.more {node = node} {below = k} {siblings = g} p q hn hd en i tc td tn) at' z slot free h st =
    let c = lay-out tc (end_of s at) refl free (free + child_count s at) (omega arith) st in
    let d = lay-out td (C s depth at slot free st).next c.next_is (C s depth at slot free st).free ((C s depth at slot free st).free + descendant_count s at) (omega arith) (C s depth at slot free st).store in
    let t = node-out s depth at slot free st hd node k en (spelt-width tc) (spelt-width td) p q c d in
    let w = spelt-width tn in let tf = t.free_is in
    let o = lay-out tn (lay_at depth s at slot free st).next t.next_is (slot + 1) (lay_at depth s at slot free st).free (omega arith) (lay_at depth s at slot free st).store in
    let of = o.free_is in
    rw (z, trees-more s depth n at slot free st hn) (record { next_is = o.next_is; free_is = omega arith; store_is = (o.store_is ∙ rw (t.free_is, t.store_is) (emitted-more node k g slot free st (omega arith))) })

-- one node, from the trees that hang from it
pub tree-ends : (s : List ℕ) (depth at : ℕ) {node : NodeRecord} {k : Link → Forest NodeRecord} {p q : ℕ} → 0 < depth → node ≡ record_at s at → Spells s (depth - 1) (child_count s at) (end_of s at) (k child) p → Spells s (depth - 1) (descendant_count s at) p (k descendant) q → (slot free : ℕ) (st : List ℕ) → Out1 (lay_at depth s at slot free st) node k q slot free st
tree-ends s depth at {node} {k} {p} {q} hd en tc td slot free st =
    let c = lay-out tc (end_of s at) refl free (free + child_count s at) (omega arith) st in
    node-out s depth at slot free st hd node k en (spelt-width tc) (spelt-width td) p q c
    (lay-out td (C s depth at slot free st).next c.next_is (C s depth at slot free st).free ((C s depth at slot free st).free + descendant_count s at) (omega arith) (C s depth at slot free st).store)

-- one turn of the loop over siblings
pub trees-again : (s : List ℕ) (depth n k at slot free : ℕ) (st st₁ : List ℕ) {next₁ free₁ : ℕ} → n ≡ k + 1 → next₁ ≡ (lay_at depth s at slot free st).next → free₁ ≡ (lay_at depth s at slot free st).free → st₁ ≡ (lay_at depth s at slot free st).store → lay_trees depth s n at slot free st ≡ lay_trees depth s k next₁ (slot + 1) free₁ st₁
trees-again s depth n k at slot free st st₁ h a b c =
    let e : n - 1 ≡ k = omega arith in let m = trees-more s depth n at slot free st (omega arith) in rw (a, b, c) (rw e at m)
