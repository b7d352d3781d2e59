-- A run over a block of a trace: each whole record is answered by a line, until the bytes, the room or the trace end (01, section 8).
use Rattle.std.specs.Prelude.{Bool, cond, List, ℕ, zero, suc, ◌+◌, ◌-◌, Option, None, Some, ltb, leb, length}
use Rattle.cells.specs.Numbers.{part}
use Rattle.records.specs.Records.{record_end}
use Rattle.stack.specs.Stores.{Stores}
use Rattle.answers.specs.Answers.{turn_of}
use Rattle.replies.specs.Replies.{Answered, saying}
use Rattle.block_ends.specs.BlockEnds.{fed, bad_fed, bad_out, cut_fed, cut_out, begin_of, no_version}
use Rattle.block_ends.specs.declared.Fed.{Fed}
use Rattle.block_ends.specs.declared.Halt.{Halt}

-- How the run over the block ended, the buffer of lines and the stores after it.
pub record Ran : Type 0 where
  pub fed : Fed
  pub out : List ℕ
  pub after : Stores

abbrev pub ran : Fed → List ℕ → Stores → Ran
ran f out after = record { fed = f; out = out; after = after }

-- The last line, and the stores as they are.
abbrev pub bad_run : (place at wrote : ℕ) → (out : List ℕ) → Stores → Ran
bad_run place at wrote out s = ran (bad_fed place at wrote) (bad_out place at wrote out) s

-- What is cut short, and the stores as they are.
abbrev pub cut_run : (last : Bool) → (place at wrote : ℕ) → (out : List ℕ) → Stores → Ran
cut_run last place at wrote out s = ran (cut_fed last place at wrote) (cut_out last place at wrote out) s

unfoldable pub on_cut : Option ℕ → Ran → (ℕ → Ran) → Ran
on_cut None short go = short
on_cut (Some end) short go = go end

unfoldable pub on_said : Answered → (bad : List ℕ → Stores → Ran) → (ℕ → List ℕ → Stores → Ran) → Ran
on_said a bad go = by a.said
  where
    by : Option ℕ → Ran
    by (Some next) = go next a.out a.after
    by None = bad a.out a.after

-- The block stands at `place` of the trace; `last`: no bytes come after it.
module _ (sheet program block : List ℕ) (last : Bool) (place : ℕ) where
  -- At most n records from a place of the block on.
  unfoldable pub answers_from : (n at wrote : ℕ) → (out : List ℕ) → Stores → Ran
  answers_from zero at wrote out s = ran (fed at wrote Halt.Hungry) out s
  answers_from (suc n) at wrote out s =
      cond (leb (length block) at) (ran (fed at wrote Halt.Hungry) out s)
      (cond (ltb (length out - wrote) 8192) (ran (fed at wrote Halt.Full) out s)
      (on_cut (record_end block at)
      (cut_run last place at wrote out s)
      (λ end. on_said (saying (turn_of sheet program s (part block (at + 2) end)) out wrote)
      (λ out' s'. bad_run place at wrote out' s')
      (λ next out' s'. answers_from n end next out' s'))))

  unfoldable pub feed_by : Option ℕ → (out : List ℕ) → Stores → Ran
  feed_by (Some first) out s = answers_from (length block) first 0 out s
  feed_by None out s = cut_run (no_version block last) 0 0 0 out s

  unfoldable pub feed_of : (out : List ℕ) → Stores → Ran
  feed_of out s = feed_by (begin_of block place) out s
