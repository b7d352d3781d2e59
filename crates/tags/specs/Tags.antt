-- A start tag from its scan to its reply, for any stores (01, section 4): the answer, and what every store holds after it.
use Rattle.std.specs.Prelude.{Bool, false, cond, not, List, ℕ, eqb, Option, Some, None}
use Rattle.stack.specs.Stores.{Stores, held_kind, held, released}
use Rattle.exec.specs.Scans.{Sought, over, stopped}
use Rattle.cursors.specs.declared.Cursor.{Cursor}
use Rattle.weighing.specs.Weighing.{pairs_full, push_refusal}
use Rattle.weighing.specs.Words.{cell, no_ids}
use Rattle.accepting.specs.Accepting.{Answer, Outcome, outcome, reply, refusing, accepted}
use Rattle.course.specs.Course.{has_content, begin, resumed}

-- What a scan found: it stopped at a cursor, or it is over.
abbrev pub sought_of : (found : List ℕ) → (stopped_at : Option Cursor) → Sought
sought_of found (Some c) = stopped found c
sought_of found None = over found

module _ (sheet program : List ℕ) where
  -- A whole tag is accepted, unless it is refused (27, 28): `old` is what stays then.
  unfoldable pub whole : (old s : Stores) → (name : List ℕ) → (content : Bool) → (found : List ℕ) → Outcome
  whole old s name content found =
      cond (not (eqb (push_refusal sheet program s.rows content found) 0))
      (refusing (push_refusal sheet program s.rows content found) old)
      (accepted sheet program s name content found)

  -- A start tag whose scan is over is whole; one that stopped waits, and nothing is counted yet.
  unfoldable pub begun : Stores → (name : List ℕ) → (kind : ℕ) → Sought → Outcome
  begun s name kind (over found) = whole s s name (has_content kind false) found
  begun s name kind (stopped found c) =
      outcome (reply Answer.Attributes no_ids) (held s name kind found c.stage (cell c.slot) (cell c.at) (cell c.stop))

  -- A start tag by its lower-cased name and its kind, unless no pair is free for its name (26).
  unfoldable pub lowered : Stores → (name : List ℕ) → (kind : ℕ) → Outcome
  lowered s name kind =
      cond (pairs_full s.rows s.names name) (refusing 26 s)
      (begun s name kind (begin sheet program s.rows s.names s.nodes name kind))

  -- The waiting tag, by its name, with its attributes.
  unfoldable pub given : Stores → (name : List ℕ) → (self_closing : Bool) → (input outlines : List ℕ) → Outcome
  given s name self_closing input outlines =
      whole s (released s) name (has_content (held_kind s.rows) self_closing) (resumed sheet program s.rows s.names s.nodes name input outlines)
