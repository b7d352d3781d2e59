-- The attributes of a record (01, section 8). A byte past the end reads as 0, so the end of a piece alone says whether all of it is there.
use Rattle.std.specs.Prelude.{Bool, cond, List, [], ◌∷◌, ℕ, zero, suc, ◌+◌, ◌≤◌, Option, None, Some, eqb, ltb, length, get_or}
use Rattle.cells.specs.Numbers.{be16}
use Rattle.cells.specs.Stretches.{written}
use Rattle.attribute_records.specs.declared.Record.{Record}

-- An attribute: u8 name length, name, u16 value length, value.
abbrev pub name_end : (body : List ℕ) → (at : ℕ) → ℕ
name_end body at = at + 1 + get_or body at 0

abbrev pub value_end : (body : List ℕ) → (at : ℕ) → ℕ
value_end body at = name_end body at + 2 + be16 body (name_end body at)

-- Its outline: name start, name end, value start, value end.
abbrev pub outline_at : (body : List ℕ) → (at : ℕ) → List ℕ
outline_at body at = (at + 1) ∷ (name_end body at ∷ ((name_end body at + 2) ∷ (value_end body at ∷ [])))

-- Where the next attribute starts, and the outlines after it.
pub record Stepped : Type 0 where
  pub step : Option ℕ
  pub outlines : List ℕ

abbrev pub stepped : Option ℕ → List ℕ → Stepped
stepped s o = record { step = s; outlines = o }

-- What a record says, if it is of its form, and the outlines after it.
pub record Read : Type 0 where
  pub said : Option Record
  pub outlines : List ℕ

abbrev pub read : Option Record → List ℕ → Read
read r o = record { said = r; outlines = o }

-- The attribute at a place, if it lies in the body.
unfoldable pub read_attribute : (body : List ℕ) → (slot at : ℕ) → (outlines : List ℕ) → Stepped
read_attribute body slot at o =
    cond (ltb (length body) (value_end body at)) (stepped None o)
    (stepped (Some (value_end body at)) (written o slot (outline_at body at)))

-- A fault ends the reading; else it goes on where the step leads.
unfoldable pub onward : Stepped → (ℕ → List ℕ → Read) → Read
onward r go = by r.step
  where
    by : Option ℕ → Read
    by (Some next) = go next r.outlines
    by None = read None r.outlines

-- So many attributes from a place on, which end where the body does.
unfoldable pub read_attributes : (body : List ℕ) → (closing : Bool) → (n slot at : ℕ) → (outlines : List ℕ) → Read
read_attributes body closing zero slot at o = read (cond (eqb at (length body)) (Some (Record.Attributes closing slot)) None) o
read_attributes body closing (suc n) slot at o = onward (read_attribute body slot at o) (λ next o'. read_attributes body closing n (slot + 4) next o')

-- Kind 2, attributes: self-closing 0 or 1, u8 count, so many attributes. A body is at most 65,535 bytes.
unfoldable pub attributes_of : (body outlines : List ℕ) → Read
attributes_of body o =
    cond (ltb 65535 (length body)) (read None o)
    (cond (ltb (length body) 3) (read None o)
    (cond (ltb 1 (get_or body 1 0)) (read None o)
    (read_attributes body (eqb (get_or body 1 0) 1) (get_or body 2 0) 0 3 o)))

-- A record has at most 255 outlines, of four numbers each.
abbrev pub Fits : Record → Type 0
Fits (Record.Start namespace) = Unit {0}
Fits (Record.Attributes closing n) = n ≤ 1020
Fits Record.End = Unit {0}
