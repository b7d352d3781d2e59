-- A whole start tag accepted, for any stores (01, section 4): the reply, and what every store holds after it.
use Rattle.std.specs.Prelude.{Bool, cond, List, ℕ, ◌≤◌, length, Result, Ok, Err}
use Rattle.refusals.specs.declared.Refusal.{Refusal}
use Rattle.refusals.specs.Numbers.{number}
use Rattle.sheet.specs.Parser.{node_count}
use Rattle.stack.specs.Stores.{Stores, open_limit, parent_limit, ancestor_limit, name_limit, opens, parents_top, ancestors_top, counted, pushed}
use Rattle.instructions.specs.FoundIds.{with_ids_of}
use Rattle.shapes.specs.Shapes.{types_counted}
use Rattle.weighing.specs.Words.{no_ids}
use Rattle.accepting.specs.declared.Answer as code

-- ---- Answers as the documents say them, a refusal by its number; the code's Results are seen as these.

-- The answer to a start tag or to attributes: it matches, with the content flag; it waits for its attributes; or a refusal's number.
pub data Answer : Type 0 where
  Match : (content : Bool) → Answer
  Attributes : Answer
  Refused : (number : ℕ) → Answer

-- The ids of a match beside the answer; no id otherwise.
pub record Reply : Type 0 where
  pub answer : Answer
  pub ids : List ℕ

-- The answer to a start tag or to attributes, and the stores after it.
pub record Outcome : Type 0 where
  pub reply : Reply
  pub after : Stores

abbrev pub outcome : Reply → Stores → Outcome
outcome reply after = record { reply = reply; after = after }

abbrev pub reply : Answer → List ℕ → Reply
reply answer ids = record { answer = answer; ids = ids }

abbrev pub answer_reply : code.Answer → Reply
answer_reply (code.Answer.Match ids content) = reply (Answer.Match content) ids
answer_reply code.Answer.Attributes = reply Answer.Attributes no_ids

abbrev pub reply_of : Result code.Answer Refusal → Reply
reply_of (Ok answer) = answer_reply answer
reply_of (Err refusal) = reply (Answer.Refused (number refusal)) no_ids

-- The limits that a machine keeps: of the open elements, their parents and ancestors, and of a tag's name.
abbrev pub Limited : (rows name : List ℕ) → Type 0
Limited rows name = (opens rows ≤ open_limit) × (parents_top rows ≤ parent_limit) × (ancestors_top rows ≤ ancestor_limit) × (length name ≤ name_limit)

-- A refused call hands out no id and leaves the stores as they were.
abbrev pub refusing : ℕ → Stores → Outcome
refusing number s = outcome (reply (Answer.Refused number) no_ids) s

-- It is accepted: its ids go out, it is counted, and pushed if it has content.
unfoldable pub accepted : (sheet program : List ℕ) → Stores → (name : List ℕ) → (content : Bool) → (found : List ℕ) → Outcome
accepted sheet program s name content found =
    outcome (reply (Answer.Match content) (with_ids_of sheet program no_ids found))
    (cond content
    (pushed program (node_count sheet) (counted (types_counted s.rows) s name) name (with_ids_of sheet program no_ids found) found)
    (counted (types_counted s.rows) s name))
