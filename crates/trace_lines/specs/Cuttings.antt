-- A trace cut into blocks: what runs over them write is the text of the trace's lines, wherever the cuts fall.
use Rattle.std.specs.Prelude.{◌≡◌, ◌≢◌, Bool, true, List, [], ◌++◌, ℕ, ◌+◌, ◌<◌, ◌≤◌, None, length, take}
use Rattle.records.specs.Records.{record_end}
use Rattle.stack.specs.Stores.{Stores}
use Rattle.block_ends.specs.declared.Fed.{Fed}
use Rattle.block_ends.specs.declared.Halt.{Halt}
use Rattle.trace.specs.Run.{Ran, feed_of}
use Rattle.trace_lines.specs.Lines.{Told, told, following, text_of, lines_of, lines_from}

-- A block lies in the trace at a place; `last`: no byte comes after it.
pub record Stands (trace block : List ℕ) (last : Bool) (place : ℕ) : Type 0 where
  pub before : List ℕ
  pub more : List ℕ
  pub is : before ++ (block ++ more) ≡ trace
  pub at : length before ≡ place
  pub end : last ≡ true → more ≡ []

-- Where a run stops: in its block; for want of bytes only where the next record isn't whole, for want of room only where a line's is not left.
pub record Stops (block : List ℕ) (room : ℕ) (f : Fed) : Type 0 where
  pub inside : f.used ≤ length block
  pub hungry : f.halt ≡ Halt.Hungry → record_end block f.used ≡ None
  pub full : f.halt ≡ Halt.Full → room < f.wrote + 8192

module _ (sheet program trace : List ℕ) where
  -- What is still to be told after a run: nothing after the last line; else what is left from where it stopped, for want of bytes or of room.
  abbrev pub left_by : Halt → (at : ℕ) → Stores → Told
  left_by Halt.Over at s = told [] s
  left_by Halt.Hungry at s = lines_from sheet program trace at s
  left_by Halt.Full at s = lines_from sheet program trace at s

  -- What a run wrote is the text of lines; with what is still to be told they are all that is told from its place on. A run that wants more bytes where there are none has told all.
  pub record Front (place : ℕ) (s : Stores) (last : Bool) (r : Ran) : Type 0 where
    pub lines : List (List ℕ)
    pub text : take r.fed.wrote r.out ≡ text_of lines
    pub whole : following lines (left_by r.fed.halt (place + r.fed.used) r.after) ≡ lines_from sheet program trace place s
    pub all : last ≡ true → r.fed.halt ≡ Halt.Hungry → left_by r.fed.halt (place + r.fed.used) r.after ≡ told [] r.after

  -- A run over a block of the trace, into a buffer with room for a line.
  pub record Feeds (place : ℕ) (s : Stores) (last : Bool) (r : Ran) : Type 0 where
    pub block : List ℕ
    pub out : List ℕ
    pub stands : Stands trace block last place
    pub is : feed_of sheet program block last place out s ≡ r
    pub room : 8192 ≤ length out

  -- Runs one after the other, each over some block that begins where the run before it stopped, to the last line or to the trace's end; the text that they wrote, and the stores after them.
  pub data Cutting : (place : ℕ) → Stores → (text : List ℕ) → Stores → Type 0 where
    said : {place : ℕ} {s : Stores} {last : Bool} (r : Ran) → Feeds place s last r → r.fed.halt ≡ Halt.Over → Cutting place s (take r.fed.wrote r.out) r.after
    ended : {place : ℕ} {s : Stores} (r : Ran) → Feeds place s true r → r.fed.halt ≡ Halt.Hungry → Cutting place s (take r.fed.wrote r.out) r.after
    onwards : {place : ℕ} {s after : Stores} {last : Bool} {text : List ℕ} (r : Ran) → Feeds place s last r → r.fed.halt ≢ Halt.Over
        → Cutting (place + r.fed.used) r.after text after → Cutting place s (take r.fed.wrote r.out ++ text) after

-- THE SPLIT THEOREM: a run over any block of a trace writes the front of what its place is answered by, and leaves the rest.
abbrev pub Split : Type 0
Split =
    (sheet program trace : List ℕ) (place : ℕ) (s : Stores) (last : Bool) (r : Ran)
    → Feeds sheet program trace place s last r → Front sheet program trace place s last r

-- Any run stops so.
abbrev pub Stopping : Type 0
Stopping = (sheet program block : List ℕ) (last : Bool) (place : ℕ) (out : List ℕ) (s : Stores) → Stops block (length out) (feed_of sheet program block last place out s).fed

-- However a trace is cut, all of it is answered by the text of its lines, and the stores after it are theirs.
abbrev pub Whole : Type 0
Whole =
    (sheet program trace : List ℕ) (s after : Stores) (text : List ℕ)
    → Cutting sheet program trace 0 s text after → (text ≡ text_of (lines_of sheet program trace s).lines) × (after ≡ (lines_of sheet program trace s).after)
