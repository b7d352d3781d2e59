-- Where a test by attribute name leaves W3C (E11): ASCII case is ignored outside HTML too.
use Rattle.std.specs.Prelude.{◌≡◌, ◌⊎◌, Bool, true, false, ℕ}
use mathlib.Core.List.{List, Memᴰ}
use Rattle.letters.specs.Bytes.{fold}
use Rattle.rules.specs.Attributes.{Attribute}
use Rattle.rules.specs.Standard.{WithValue}

-- Some attribute has the name in other case.
unfoldable pub OtherCase : List ℕ → List Attribute → Type 0
OtherCase name attributes = (a : Attribute) × (Memᴰ a attributes × ((a.name ≡ name → ⊥) × (fold true a.name ≡ fold true name)))

-- E11's condition: that, outside HTML.
unfoldable pub CaseIgnored : Bool → List ℕ → List Attribute → Type 0
CaseIgnored html name attributes = (html ≡ false) × OtherCase name attributes

-- W3C's attribute and what is said of its value; under E11's condition the attribute is the one that HTML would find.
unfoldable pub AnyCase : Bool → List ℕ → (List ℕ → Type 0) → List Attribute → Type 0
AnyCase html name Says attributes = ((CaseIgnored html name attributes → ⊥) × WithValue html name Says attributes) ⊎ (CaseIgnored html name attributes × WithValue true name Says attributes)
