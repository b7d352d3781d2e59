-- Each way out of reading attributes.
use mathlib.Core.Bool.{Bool}
use mathlib.Core.List.{List}
use mathlib.Core.Path.{◌≡◌}
use Prim.Native.Nat.{ℕ, zero, suc, ◌+◌, ◌-◌, ◌≤◌, ◌<◌}
use native.Mathlib.Numerals.{sub-one}
use native.Mathlib.Omega.{arith}
use borrow.Author.Tests.{le-ltb, eq-eqb, ne_eqb}
use lib.Dec.{eqb}
use lib.ListN.{length, get_or, set}
use Rattle.std.specs.Prelude.{Option, None, Some}
use Rattle.cells.specs.Numbers.{be16}
use Rattle.cells.specs.Stretches.{written}
use Rattle.attribute_records.specs.AttributeRecords.{Read, read, stepped, read_attribute, onward, read_attributes, attributes_of}
use Rattle.attribute_records.specs.declared.Record.{Record}

-- ---- one attribute

module _ (s : List ℕ) (slot at : ℕ) (o : List ℕ) where
  module _ (n : ℕ) (e : n ≡ get_or s at 0) (v : ℕ) (f : v ≡ be16 s (at + 1 + n)) where
    pub attribute-whole : at + 1 + n + 2 + v ≤ length s → (o1 o2 o3 o4 : List ℕ)
        → o1 ≡ set o slot (at + 1) → o2 ≡ set o1 (slot + 1) (at + 1 + n) → o3 ≡ set o2 (slot + 2) (at + 1 + n + 2) → o4 ≡ set o3 (slot + 3) (at + 1 + n + 2 + v)
        → stepped (Some (at + 1 + n + 2 + v)) o4 ≡ read_attribute s slot at o
    unfolding read_attribute written
    attribute-whole d o1 o2 o3 o4 p q r t =
        let y : slot + 1 + 1 ≡ slot + 2 = omega arith in
        let z : slot + 2 + 1 ≡ slot + 3 = omega arith in
        simp (← e, ← f, le-ltb _ _ d, y, z) (cc)

-- ---- all attributes

module _ (s : List ℕ) (b : Bool) where
  pub all_end : (n slot at : ℕ) (o : List ℕ) → n ≤ 0 → at ≡ length s → read (Some (Record.Attributes b slot)) o ≡ read_attributes s b n slot at o
  unfolding read_attributes
  all_end zero slot at o h e = simp (eq-eqb _ _ e)
  all_end (suc n) slot at o h e = absurd (omega arith)

  pub all-over : (n slot at : ℕ) (o : List ℕ) → n ≤ 0 → (at ≡ length s → ⊥) → read None o ≡ read_attributes s b n slot at o
  unfolding read_attributes
  all-over zero slot at o h e = simp (ne_eqb _ _ e)
  all-over (suc n) slot at o h e = absurd (omega arith)

  pub all-faulty : (n slot at : ℕ) (o o' : List ℕ) (st : Option ℕ) → 0 < n → stepped st o' ≡ read_attribute s slot at o → st ≡ None → read None o' ≡ read_attributes s b n slot at o
  unfolding read_attributes onward
  all-faulty zero slot at o o' st h e f = absurd (omega arith)
  all-faulty (suc n) slot at o o' st h e f = rw (← e, f)

  pub all_more : (n slot at : ℕ) (o o' : List ℕ) (st : Option ℕ) (next : ℕ) → 0 < n → stepped st o' ≡ read_attribute s slot at o → st ≡ Some next → read_attributes s b n slot at o ≡ read_attributes s b (n - 1) (slot + 4) next o'
  unfolding read_attributes onward
  all_more zero slot at o o' st next h e f = absurd (omega arith)
  all_more (suc n) slot at o o' st next h e f = rw (sub-one, ← e, f)

module _ (s o : List ℕ) where
  module _ (a : length s ≤ 65535) (b : 3 ≤ length s) (m : ℕ) (e : m ≡ get_or s 1 0) where
    pub given-all : m ≤ 1 → (n : ℕ) → n ≡ get_or s 2 0 → (g : Read) → g ≡ read_attributes s (eqb m 1) n 0 3 o → g ≡ attributes_of s o
    unfolding attributes_of
    given-all h n f g q = simp (← e, ← f, le-ltb _ _ a, le-ltb _ _ b, le-ltb _ _ h) q
