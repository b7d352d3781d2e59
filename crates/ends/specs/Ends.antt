-- End tag and id set asked, on lent stores (01, sections 2 to 4), for any bytes: the answer, and what every store holds after it. Refusals come first, and leave all as it was.
use Rattle.std.specs.Prelude.{cond, not, List, map, ℕ, ◌*◌, eqb, ltb, length, Option, Some, None, Result, Ok, Err}
use Rattle.letters.specs.Bytes.{lower_of}
use Rattle.stack.specs.Stores.{Stores, id_words, opens, popped_count, popped_rows, popped_ids, ids_of_top}
use Rattle.shapes.specs.Shapes.{state_refusal}
use Rattle.weighing.specs.Weighing.{end_refusal}
use Rattle.weighing.specs.Words.{no_ids}
use Rattle.refusals.specs.declared.Refusal.{Refusal}
use Rattle.refusals.specs.Numbers.{number}

-- ---- Answers as the documents say them, a refusal by its number; the code's Results are seen as these.

-- How many elements an end tag popped, or a refusal's number.
pub data Popped : Type 0 where
  Elements : (count : ℕ) → Popped
  Refused : (number : ℕ) → Popped

-- The top open element's ids are beside the answer; nothing is open; or a refusal's number.
pub data Top : Type 0 where
  Ids : Top
  NothingOpen : Top
  Refused : (number : ℕ) → Top

pub record TopReply : Type 0 where
  pub top : Top
  pub ids : List ℕ

abbrev pub popped_of : Result ℕ Refusal → Popped
popped_of (Ok count) = Popped.Elements count
popped_of (Err refusal) = Popped.Refused (number refusal)

-- The answer to an end tag, the rows and the popped-id buffer after it; the other stores stay.
pub record Ended : Type 0 where
  pub answer : Popped
  pub rows : List ℕ
  pub out : List ℕ

abbrev pub ended : Popped → List ℕ → List ℕ → Ended
ended answer rows out = record { answer = answer; rows = rows; out = out }

-- So many are popped, unless the buffer is too short for their ids (29).
unfoldable pub popping : (rows ids out : List ℕ) → (n : ℕ) → Ended
popping rows ids out n =
    cond (ltb (length out) (n * id_words)) (ended (Popped.Refused 29) rows out)
    (ended (Popped.Elements n) (popped_rows rows n) (popped_ids rows ids out n))

-- The id set of the top open element.
abbrev pub top_reply : Top → List ℕ → TopReply
top_reply top ids = record { top = top; ids = ids }

abbrev pub top_of : Result (Option (List ℕ)) Refusal → TopReply
top_of (Ok (Some ids)) = top_reply Top.Ids ids
top_of (Ok None) = top_reply Top.NothingOpen no_ids
top_of (Err refusal) = top_reply (Top.Refused (number refusal)) no_ids

module _ (sheet program : List ℕ) where
  -- End tag.
  unfoldable pub end_call : Stores → (name out : List ℕ) → Ended
  end_call s name out =
      cond (not (eqb (state_refusal sheet program s) 0)) (ended (Popped.Refused (state_refusal sheet program s)) s.rows out)
      (cond (not (eqb (end_refusal s.rows name) 0)) (ended (Popped.Refused (end_refusal s.rows name)) s.rows out)
      (popping s.rows s.ids out (popped_count s.rows s.names (map lower_of name))))

  -- The id set of the top open element, or that nothing is open.
  unfoldable pub id_set_call : Stores → TopReply
  id_set_call s =
      cond (not (eqb (state_refusal sheet program s) 0)) (top_reply (Top.Refused (state_refusal sheet program s)) no_ids)
      (cond (eqb (opens s.rows) 0) (top_reply Top.NothingOpen no_ids)
      (top_reply Top.Ids (ids_of_top s.rows s.ids no_ids)))
