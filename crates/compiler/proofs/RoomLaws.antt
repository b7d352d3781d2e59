-- The room that each call of the recursion has.
use Prim.Native.Nat.{ℕ, ◌+◌, ◌-◌, ◌*◌, ◌≤◌, ◌<◌}
use mathlib.Core.Path.{◌≡◌, refl, ◌∙◌}
use mathlib.Core.List.{List}
use native.Mathlib.Omega.{arith}
use lib.Seq.{sets}
use Rattle.meaning.specs.Document.{Link, child, descendant}
use Rattle.meaning.specs.Trees.{Forest, end, tree, size}
use Rattle.node_records.specs.Records.{NodeRecord, end_of, child_count, descendant_count}
use Rattle.sheet.specs.Spelling.{Inside, Spells}
use Rattle.sheet.proofs.SpellingLaws.{spelt-width}
use Rattle.program.specs.Program.{row, instruction_at}
use Rattle.compiler.specs.Placing.{lay_at, lay_trees, Room}
use Rattle.compiler.proofs.PlacingLaws.{lay-out, size_is, level, tree-ends}

-- one tree, taken apart
pub record Opened (s : List ℕ) (depth at slot free : ℕ) : Type 0 where
  pub below : Link → Forest NodeRecord
  pub p : ℕ
  pub q : ℕ
  pub deep : 0 < depth
  pub inside : Inside s at
  pub children : Spells s (depth - 1) (child_count s at) (end_of s at) (below child) p
  pub descendants : Spells s (depth - 1) (descendant_count s at) p (below descendant) q
  pub own : slot < free
  pub room : free + size (below child) + size (below descendant) ≤ 1024

opened : {s : List ℕ} {depth n at m : ℕ} {f : Forest NodeRecord} (slot free : ℕ) → n ≡ 1 → slot + n ≤ free → free + size f ≤ 1024 + n → Spells s depth n at f m → Opened s depth at slot free
unfolding size
opened slot free e x y (Spells.none a b) = absurd (omega arith)
opened slot free e x y (Spells.more {below = k} p q hn hd en i tc td tn) =
    record { below = k; p = p; q = q; deep = hd; inside = i; children = tc; descendants = td; own = omega arith; room = omega arith }

pub unpack : {s : List ℕ} {depth at slot free : ℕ} → Room s depth 1 at slot free → Opened s depth at slot free
unpack {slot = slot} {free = free} r = opened slot free refl r.own r.below r.spelt

module _ {s : List ℕ} {depth at slot free : ℕ} (r : Room s depth 1 at slot free) {ch de nx : ℕ} (en : nx ≡ end_of s at) (ec : ch ≡ child_count s at) (ed : de ≡ descendant_count s at) where
  pub child-room : Room s (depth - 1) ch nx free (free + ch)
  child-room = let o = unpack r in let h = o.room in
      rw (ec, en) (record { forest = o.below child; next = o.p; spelt = o.children; own = omega arith; below = omega arith })

  module _ (st st₁ : List ℕ) {cn cf : ℕ} (ea : cn ≡ (lay_trees (depth - 1) s ch nx free (free + ch) st).next) (ef : cf ≡ (lay_trees (depth - 1) s ch nx free (free + ch) st).free) where
    pub middle : (cf ≡ free + size ((unpack r).below child)) × (cn ≡ (unpack r).p)
    middle =
        let o = unpack r in
        let l = lay-out o.children nx en free (free + ch) (omega arith) st in
        let x = simp (← ec) at l in
        let w = spelt-width o.children in
        let z = size_is (o.below child) in
        let f = x.free_is in (omega arith, ea ∙ x.next_is)

    pub descendant-room : Room s (depth - 1) de cn cf (cf + de)
    descendant-room = let o = unpack r in let h = o.room in let m = middle in let m0 = m.0 in
        rw (ed, m.1) (record { forest = o.below descendant; next = o.q; spelt = o.descendants; own = omega arith; below = omega arith })

    pub node-is : st₁ ≡ (lay_trees (depth - 1) s ch nx free (free + ch) st).store → lay_at depth s at slot free st ≡ record { store = sets (lay_trees (depth - 1) s de cn cf (cf + de) st₁).store (slot * 8) (row (instruction_at s at free cf)); next = (lay_trees (depth - 1) s de cn cf (cf + de) st₁).next; free = (lay_trees (depth - 1) s de cn cf (cf + de) st₁).free }
    node-is eo = simp (eo, ea, ef, en, ec, ed) (level s depth at slot free st (unpack r).deep)

-- the first of several trees, and the others
taken : {s : List ℕ} {depth n at m : ℕ} {f : Forest NodeRecord} (slot free : ℕ) → 0 < n → slot + n ≤ free → free + size f ≤ 1024 + n → Spells s depth n at f m → Room s depth 1 at slot free
unfolding size
taken slot free h x y (Spells.none a b) = absurd (omega arith)
taken {depth = depth} {at = at} slot free h x y (Spells.more {node = node} {below = k} {siblings = g} p q hn hd en i tc td tn) =
    let w = spelt-width tn in let z = size_is g in
    record { forest = tree node k end; next = q; spelt = Spells.more {depth = depth} {n = 1} {at = at} {next = q} p q (omega arith) hd en i tc td (Spells.none refl refl); own = omega arith; below = omega arith }

pub first-room : {s : List ℕ} {depth n at slot free : ℕ} → 0 < n → Room s depth n at slot free → Room s depth 1 at slot free
first-room {slot = slot} {free = free} h r = taken slot free h r.own r.below r.spelt

others : {s : List ℕ} {depth n at m : ℕ} {f : Forest NodeRecord} (slot free : ℕ) (st : List ℕ) → 0 < n → slot + n ≤ free → free + size f ≤ 1024 + n → Spells s depth n at f m → Room s depth (n - 1) (lay_at depth s at slot free st).next (slot + 1) (lay_at depth s at slot free st).free
unfolding size
others slot free st h x y (Spells.none a b) = absurd (omega arith)
others {s} {depth} {n} {at} {m} slot free st h x y (Spells.more {node = node} {below = k} {siblings = g} p q hn hd en i tc td tn) =
    let o = tree-ends s depth at {node = node} {k = k} hd en tc td slot free st in
    let f = o.free_is in
    rw o.next_is (record { forest = g; next = m; spelt = tn; own = omega arith; below = omega arith })

pub rest-room : {s : List ℕ} {depth n at slot free : ℕ} (st : List ℕ) (k : ℕ) → n ≡ k + 1 → Room s depth n at slot free → {hn hf : ℕ} → hn ≡ (lay_at depth s at slot free st).next → hf ≡ (lay_at depth s at slot free st).free → Room s depth k hn (slot + 1) hf
rest-room {n = n} {slot = slot} {free = free} st k h r ea ef =
    let e : n - 1 ≡ k = omega arith in let o = others slot free st (omega arith) r.own r.below r.spelt in rw (ea, ef) (rw e at o)
