-- Tests by attribute name with ASCII case ignored whatever the tag's namespace; `Standard` has W3C's, by namespace, and `Departures` where the two part.
use Rattle.std.specs.Prelude.{◌≡◌, true, ℕ}
use mathlib.Core.List.{List, ◌∷◌, Memᴰ}
use Rattle.letters.specs.Bytes.{fold}
use Rattle.rules.specs.Attributes.{Attribute}

-- The attribute is there, whatever its value; names ignore ASCII case.
unfoldable pub HasLowered : List ℕ → List Attribute → Type 0
HasLowered name attributes = (a : Attribute) × (Memᴰ a attributes × (fold true a.name ≡ fold true name))

-- The value is that of the first attribute whose lower-cased name is the wanted one.
pub data FirstLowered (wanted value : List ℕ) : List Attribute → Type 0 where
  here : {a : Attribute} {more : List Attribute} → fold true a.name ≡ wanted → a.value ≡ value → FirstLowered wanted value (a ∷ more)
  later : {a : Attribute} {more : List Attribute} → (fold true a.name ≡ wanted → ⊥) → FirstLowered wanted value more → FirstLowered wanted value (a ∷ more)
