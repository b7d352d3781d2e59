-- W3C's selectors and where they match (Selectors 4: compound selector, complex selector, combinators).
use Rattle.std.specs.Prelude.{List, Bool, T}
use Rattle.meaning.specs.Lists.{◌∈◌, every}
use Rattle.meaning.specs.Document.{Link, Spot, reach}

-- A complex selector: a compound, which is a list of simple selectors; or a complex selector, a combinator and a compound to its right.
pub data Complex (S : Type 0) : Type 0 where
  only : List S → Complex S
  then : Complex S → Link → List S → Complex S

-- `simple` tells whether a simple selector holds for an element.
module _ {S E : Type 0} (simple : S → Spot E → Bool) where
  -- A compound selector holds for an element when all its simple selectors do.
  abbrev pub all_hold : List S → Spot E → Bool
  all_hold compound s = every (λ x. simple x s) compound

  -- Read from the right: the last compound holds for the element, and the rest holds for an element that the combinator reaches from it.
  abbrev pub Selects : Complex S → Spot E → Type 0
  Selects (only compound) s = T (all_hold compound s)
  Selects (then rest l compound) s = T (all_hold compound s) × ((r : Spot E) × (r ∈ reach l s.at) × Selects rest r)
