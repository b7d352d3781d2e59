-- What a whole trace is answered by, whatever blocks it comes in and whatever room its lines have (01, section 8).
use Rattle.std.specs.Prelude.{cond, List, [], ◌∷◌, ◌++◌, ℕ, zero, suc, ◌+◌, Option, None, Some, eqb, ltb, leb, length, get_or}
use Rattle.cells.specs.Numbers.{part}
use Rattle.lines.specs.Lines.{bad_trace_line}
use Rattle.records.specs.Records.{record_end}
use Rattle.stack.specs.Stores.{Stores}
use Rattle.answers.specs.Answers.{turn_of}
use Rattle.replies.specs.Replies.{Turn}

-- Lines, and the stores after them.
pub record Told : Type 0 where
  pub lines : List (List ℕ)
  pub after : Stores

abbrev pub told : List (List ℕ) → Stores → Told
told lines after = record { lines = lines; after = after }

-- Lines before others.
abbrev pub following : List (List ℕ) → Told → Told
following lines t = told (lines ++ t.lines) t.after

-- The text of lines.
unfoldable pub text_of : List (List ℕ) → List ℕ
text_of [] = []
text_of (line ∷ lines) = line ++ text_of lines

unfoldable pub on_record : Option ℕ → Told → (ℕ → Told) → Told
on_record None bad go = bad
on_record (Some end) bad go = go end

unfoldable pub on_turn : Turn → (bad go : Stores → Told) → Told
on_turn (Turn.line text after) bad go = following (text ∷ []) (go after)
on_turn (Turn.faulty after) bad go = bad after

module _ (sheet program trace : List ℕ) where
  -- `bad trace at K` is the last line.
  abbrev pub bad_at : (at : ℕ) → Stores → Told
  bad_at at s = told (bad_trace_line at ∷ []) s

  -- A record that begins where the trace has ended is none; one that the trace's end cuts, or whose body is faulty, is the last; any other has its line, and the next record begins where it ends.
  unfoldable pub records_from : (n at : ℕ) → Stores → Told
  records_from zero at s = told [] s
  records_from (suc n) at s =
      cond (leb (length trace) at) (told [] s)
      (on_record (record_end trace at)
      (bad_at at s)
      (λ end. on_turn (turn_of sheet program s (part trace (at + 2) end)) (bad_at at) (λ after. records_from n end after)))

  -- THE LINES OF A TRACE: its first byte is the version, 1; the records follow, fewer than its bytes.
  unfoldable pub lines_of : Stores → Told
  lines_of s = cond (eqb (get_or trace 0 0) 1) (records_from (length trace) 1 s) (bad_at 0 s)

  -- Those of what is left of it from a place on.
  unfoldable pub lines_from : (at : ℕ) → Stores → Told
  lines_from at s = cond (ltb 0 at) (records_from (length trace) at s) (lines_of s)
