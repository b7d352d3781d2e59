-- The attributes of the waiting tag on lent stores (01, sections 2 to 4), for any bytes: the answer, and what every store holds after it. Refusals come first, and leave all as it was.
use Rattle.std.specs.Prelude.{Bool, cond, not, List, ℕ, eqb}
use Rattle.stack.specs.Stores.{Stores, held_name}
use Rattle.shapes.specs.Shapes.{state_refusal}
use Rattle.weighing.specs.Weighing.{attributes_refusal}
use Rattle.accepting.specs.Accepting.{Outcome, refusing}
use Rattle.tags.specs.Tags.{given}

module _ (sheet program : List ℕ) where
  -- Attributes of the waiting tag; it waits on after a refusal.
  unfoldable pub attributes_call : Stores → (self_closing : Bool) → (input outlines : List ℕ) → Outcome
  attributes_call s self_closing input outlines =
      cond (not (eqb (state_refusal sheet program s) 0)) (refusing (state_refusal sheet program s) s)
      (cond (not (eqb (attributes_refusal s.rows input outlines) 0)) (refusing (attributes_refusal s.rows input outlines) s)
      (given sheet program s (held_name s.rows s.names) self_closing input outlines))
