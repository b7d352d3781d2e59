-- A start tag on lent stores (01, sections 2 to 4), for any bytes: the answer, and what every store holds after it. Refusals come first, and leave all as it was.
use Rattle.std.specs.Prelude.{cond, not, List, map, ℕ, eqb}
use Rattle.letters.specs.Bytes.{lower_of}
use Rattle.names.specs.Names.{void_name}
use Rattle.stack.specs.Stores.{Stores}
use Rattle.shapes.specs.Shapes.{esi_on, state_refusal}
use Rattle.weighing.specs.Weighing.{tag_refusal}
use Rattle.course.specs.Course.{kind_of}
use Rattle.accepting.specs.Accepting.{Outcome, refusing}
use Rattle.tags.specs.Tags.{lowered}

module _ (sheet program : List ℕ) where
  -- Start tag.
  unfoldable pub start_call : Stores → (namespace : ℕ) → (name : List ℕ) → Outcome
  start_call s namespace name =
      cond (not (eqb (state_refusal sheet program s) 0)) (refusing (state_refusal sheet program s) s)
      (cond (not (eqb (tag_refusal s.rows namespace name) 0)) (refusing (tag_refusal s.rows namespace name) s)
      (lowered sheet program s (map lower_of name) (kind_of namespace (void_name (esi_on s.rows) name))))
