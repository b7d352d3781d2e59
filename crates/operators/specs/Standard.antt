-- What Selectors Level 4 says of the attribute operators, in its own words, as statements about bytes.
-- A case rule says whether ASCII case is ignored (`i`, `s`, or what the document language decides).
use Rattle.std.specs.Prelude.{◌≡◌, ◌⊎◌, Bool, true, false, List, [], ◌∷◌, ◌++◌, ℕ}
use Rattle.letters.specs.Bytes.{fold, space_byte}

-- [att=val]: the value is exactly val.
unfoldable pub Equal : Bool → List ℕ → List ℕ → Type 0
Equal f value operand = fold f value ≡ fold f operand

-- [att^=val]: the value begins with val; an empty val never matches.
unfoldable pub Prefix : Bool → List ℕ → List ℕ → Type 0
Prefix f value operand = (operand ≡ [] → ⊥) × ((rest : List ℕ) × (fold f value ≡ fold f operand ++ rest))

-- [att$=val]: the value ends with val; an empty val never matches.
unfoldable pub Suffix : Bool → List ℕ → List ℕ → Type 0
Suffix f value operand = (operand ≡ [] → ⊥) × ((front : List ℕ) × (fold f value ≡ front ++ fold f operand))

-- [att*=val]: the value holds val somewhere; an empty val never matches.
unfoldable pub Substring : Bool → List ℕ → List ℕ → Type 0
Substring f value operand = (operand ≡ [] → ⊥) × ((front : List ℕ) × ((rest : List ℕ) × (fold f value ≡ front ++ (fold f operand ++ rest))))

-- [att|=val]: the value is exactly val, or begins with val followed at once by `-`.
unfoldable pub Dash : Bool → List ℕ → List ℕ → Type 0
Dash f value operand = (fold f value ≡ fold f operand) ⊎ ((rest : List ℕ) × (fold f value ≡ fold f operand ++ (45 ∷ rest)))

-- No byte is white space.
unfoldable pub Clear : List ℕ → Type 0
Clear [] = Unit {0}
Clear (x ∷ xs) = (space_byte x ≡ false) × Clear xs

-- Nothing, or white space at the end of what goes before.
unfoldable pub Before : List ℕ → Type 0
Before [] = Unit {0}
Before (x ∷ []) = space_byte x ≡ true
Before (x ∷ (y ∷ ys)) = Before (y ∷ ys)

-- Nothing, or white space at the start of what comes after.
unfoldable pub After : List ℕ → Type 0
After [] = Unit {0}
After (x ∷ xs) = space_byte x ≡ true

-- A part of a value between white space: bytes with none among them, with the value's start or white space before and its end or white space after.
pub record Part (value p : List ℕ) : Type 0 where
  pub front : List ℕ
  pub back : List ℕ
  pub whole : value ≡ front ++ (p ++ back)
  pub clear : Clear p
  pub before : Before front
  pub after : After back

-- [att~=val]: the value is a list of words separated by white space, one of which is exactly val; a val that is empty or holds white space never matches.
unfoldable pub Includes : Bool → List ℕ → List ℕ → Type 0
Includes f value operand = (operand ≡ [] → ⊥) × (Clear operand × ((p : List ℕ) × (Part value p × (fold f p ≡ fold f operand))))
