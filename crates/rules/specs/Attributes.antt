-- A tag's attributes, as outlines cut them out of its input, and the one that a name finds (01, section 3 and refusal 24).
use Rattle.std.specs.Prelude.{Bool, true, false, cond, ◌&&◌, List, [], ◌∷◌, ℕ, leb, length}
use Rattle.std.proofs.Math.Option.{Option, none, some}
use Rattle.cells.specs.Numbers.{part}
use Rattle.letters.specs.Bytes.{same_bytes}

-- An attribute is its name and its value.
pub record Attribute : Type 0 where
  pub name : List ℕ
  pub value : List ℕ

-- The attributes that outlines cut out of the input, in fours: name start, name end, value start, value end.
unfoldable pub attributes_of : List ℕ → List ℕ → List Attribute
attributes_of input [] = []
attributes_of input (a ∷ []) = []
attributes_of input (a ∷ (b ∷ [])) = []
attributes_of input (a ∷ (b ∷ (c ∷ []))) = []
attributes_of input (a ∷ (b ∷ (c ∷ (d ∷ more)))) = record { name = part input a b; value = part input c d } ∷ attributes_of input more

-- No start past its end, no end past the input's length.
unfoldable pub lies_within : ℕ → ℕ → ℕ → Bool
lies_within size start end = leb start end && leb end size

-- Outlines come in fours, names and values lie within the input.
unfoldable pub well_formed : ℕ → List ℕ → Bool
well_formed size [] = true
well_formed size (a ∷ []) = false
well_formed size (a ∷ (b ∷ [])) = false
well_formed size (a ∷ (b ∷ (c ∷ []))) = false
well_formed size (a ∷ (b ∷ (c ∷ (d ∷ more)))) = lies_within size a b && (lies_within size c d && well_formed size more)

-- What refusal 24 does not refuse: well formed, at most 256 outlines, at most 65,536 bytes of input.
unfoldable pub good_outlines : List ℕ → List ℕ → Bool
good_outlines input outlines = leb (length input) 65536 && (leb (length outlines) 1024 && well_formed (length input) outlines)

-- The value of the first attribute whose lower-cased name is the wanted one.
unfoldable pub lookup : List ℕ → List Attribute → Option (List ℕ)
lookup wanted [] = none
lookup wanted (a ∷ as') = cond (same_bytes true false a.name wanted) (some a.value) (lookup wanted as')

unfoldable pub is_there : Option (List ℕ) → Bool
is_there none = false
is_there (some value) = true
