use Rattle.std.specs.Prelude.{Bool, true, false, ◌≡◌, List, ℕ, ◌+◌, ◌-◌, ◌<◌, ◌≤◌, Option, length, take, slice_range}
use Rattle.std.specs.Io.KnownBytes.{Consumes, IsAtEnd, Keeps}
use Rattle.block_ends.specs.declared.Fed.{Fed}
use Rattle.block_ends.specs.declared.Halt.{Halt}
use Rattle.stack.specs.Stores.{Stores}
use Rattle.trace.specs.Run.{Ran, feed_of}
use Rattle.trace_blocks.specs.declared.Progress.{Progress}

-- The bytes still to be read lie in a buffer of n bytes.
abbrev pub Sound : Progress → ℕ → Type 0
Sound p n = (p.at ≤ p.end) × (p.end ≤ n)

-- How a run over the buffer's bytes went, from the stores and the buffer of lines as they were.
abbrev pub run_of : (sheet program : List ℕ) → Progress → (input out : List ℕ) → Stores → Ran
run_of sheet program p input out s = feed_of sheet program (slice_range input p.at p.end) p.last p.place out s

-- After a run over the buffer's bytes: what it used is behind.
abbrev pub advanced : Progress → Fed → Progress
advanced p f = record { at = p.at + f.used; end = p.end; place = p.place + f.used; last = p.last; halt = f.halt }

-- More is wanted, and no bytes come any more: all is said.
abbrev pub ended : Progress → Progress
ended p = record { at = p.at; end = p.end; place = p.place; last = true; halt = Halt.Over }

-- The bytes that were still to be read stand at the buffer's front.
abbrev pub InFront : Progress → (input input' : List ℕ) → Type 0
InFront p input input' = take (p.end - p.at) input' ≡ slice_range input p.at p.end

-- More was read: the bytes that were still to be read stand at the buffer's front, and behind them what the reader gave. None came
-- where the input ends. A reader's bytes are known before the read as `old`, after it as `new`.
pub record ReadOn (old new : Option (List ℕ)) (p : Progress) (input : List ℕ) (q : Progress) (input' : List ℕ) : Type 0 where
  pub kept : take (p.end - p.at) input' ≡ slice_range input p.at p.end
  pub taken : Consumes old new (slice_range input' (p.end - p.at) q.end)
  pub at_front : q.at ≡ 0
  pub grows : p.end - p.at ≤ q.end
  pub none : q.last ≡ true → q.end ≡ p.end - p.at
  pub at_end : q.last ≡ true → p.end - p.at < length input → IsAtEnd new
  pub some : q.last ≡ false → p.end - p.at < q.end
  pub place : q.place ≡ p.place
  pub goes_on : q.halt ≡ Halt.Full

-- More is wanted.
abbrev pub Refilled : (last : Bool) → (old new : Option (List ℕ)) → Progress → List ℕ → Progress → List ℕ → Type 0
Refilled true old new p input q input' = (q ≡ ended p) × (input' ≡ input) × Keeps old new
Refilled false old new p input q input' = ReadOn old new p input q input'

-- After the run: more is read only where it is wanted.
abbrev pub Turned : Halt → (old new : Option (List ℕ)) → Progress → List ℕ → Progress → List ℕ → Type 0
Turned Halt.Over old new p input q input' = (q ≡ p) × (input' ≡ input) × Keeps old new
Turned Halt.Full old new p input q input' = (q ≡ p) × (input' ≡ input) × Keeps old new
Turned Halt.Hungry old new p input q input' = Refilled p.last old new p input q input'
