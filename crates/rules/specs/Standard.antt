-- What Selectors Level 4 says of type selectors and of an element's attributes, in its own words, as statements about bytes.
-- Each takes the element's namespace, HTML or another: in HTML names are compared with ASCII case ignored, elsewhere exactly.
use Rattle.std.specs.Prelude.{◌≡◌, Bool, ℕ}
use mathlib.Core.List.{List, [], ◌∷◌, Memᴰ}
use Rattle.letters.specs.Bytes.{fold}
use Rattle.operators.specs.Standard.{Equal, Includes}
use Rattle.rules.specs.Attributes.{Attribute}

-- A type selector: the element's name is that name ("Type selector").
unfoldable pub TypeSelector : Bool → List ℕ → List ℕ → Type 0
TypeSelector html name wanted = fold html name ≡ fold html wanted

-- [att]: the attribute is there, whatever its value ("Attribute presence and value selectors").
unfoldable pub HasAttribute : Bool → List ℕ → List Attribute → Type 0
HasAttribute html name attributes = (a : Attribute) × (Memᴰ a attributes × (fold html a.name ≡ fold html name))

-- The value of the attribute of a name: the first one's, should a tag give it twice, as HTML parses it.
pub data First (html : Bool) (name value : List ℕ) : List Attribute → Type 0 where
  here : {a : Attribute} {more : List Attribute} → fold html a.name ≡ fold html name → a.value ≡ value → First html name value (a ∷ more)
  later : {a : Attribute} {more : List Attribute} → (fold html a.name ≡ fold html name → ⊥) → First html name value more → First html name value (a ∷ more)

-- [att=val] and the like: the attribute is there, and its value is as the operator says ("Attribute presence and value selectors").
unfoldable pub WithValue : Bool → List ℕ → (List ℕ → Type 0) → List Attribute → Type 0
WithValue html name Says attributes = (value : List ℕ) × (First html name value attributes × Says value)

-- #x, of the value of the attribute `id`: it is x, and an empty one is no id; ASCII case is ignored in quirks documents ("ID selectors").
unfoldable pub IdSelector : Bool → List ℕ → List ℕ → Type 0
IdSelector quirks value x = (x ≡ [] → ⊥) × Equal quirks value x

-- .c, of the value of the attribute `class`: it is [class~=c]; ASCII case is ignored in quirks documents ("Class selectors").
unfoldable pub ClassSelector : Bool → List ℕ → List ℕ → Type 0
ClassSelector quirks value c = Includes quirks value c
