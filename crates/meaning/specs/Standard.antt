-- What Selectors Level 4 says of the position that :nth-of-type looks at, in its own words.
use Rattle.std.specs.Prelude.{Bool, not, ◌&&◌, eqb, length, ℕ}
use Rattle.meaning.specs.Lists.{keep}
use Rattle.meaning.specs.Document.{before, position_of_type}
use Rattle.meaning.specs.Elements.{Tag, Element, Where, same_name}

module _ {A : Type 0} (t : Tag) where
  -- An element is of a tag's type: its name and its namespace are the tag's ("Typed child-indexed pseudo-classes").
  abbrev pub of_type : Element A → Bool
  of_type e = same_name t.name e.tag.name && eqb t.namespace e.tag.namespace

  -- The position of the tag, from 1, among the siblings of its type.
  abbrev pub position_of_own_type : Where A → ℕ
  position_of_own_type c = position_of_type of_type c

  -- E3: an element has the tag's name in another namespace; and how many earlier siblings do.
  abbrev pub elsewhere : Element A → Bool
  elsewhere e = same_name t.name e.tag.name && not (eqb t.namespace e.tag.namespace)

  abbrev pub siblings_elsewhere : Where A → ℕ
  siblings_elsewhere c = length (keep (λ s. elsewhere s.element) (before c))
