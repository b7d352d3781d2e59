-- How a run over a block of a trace begins and ends (01, section 8).
use Rattle.std.specs.Prelude.{Bool, true, cond, List, ℕ, ◌+◌, Option, None, Some, eqb, ltb, length, get_or}
use Rattle.cells.specs.Stretches.{written}
use Rattle.lines.specs.Lines.{bad_trace_line}
use Rattle.block_ends.specs.declared.Fed.{Fed}
use Rattle.block_ends.specs.declared.Halt.{Halt}

abbrev pub fed : (used wrote : ℕ) → Halt → Fed
fed used wrote halt = record { used = used; wrote = wrote; halt = halt }

-- The last line: K counts from the trace's first byte, and the block stands at a place of the trace.
abbrev pub bad_fed : (place at wrote : ℕ) → Fed
bad_fed place at wrote = fed at (wrote + length (bad_trace_line (place + at))) Halt.Over

abbrev pub bad_out : (place at wrote : ℕ) → (out : List ℕ) → List ℕ
bad_out place at wrote out = written out wrote (bad_trace_line (place + at))

-- What is cut short is faulty only where no bytes come after it.
abbrev pub cut_fed : (last : Bool) → (place at wrote : ℕ) → Fed
cut_fed last place at wrote = cond last (bad_fed place at wrote) (fed at wrote Halt.Hungry)

abbrev pub cut_out : (last : Bool) → (place at wrote : ℕ) → (out : List ℕ) → List ℕ
cut_out last place at wrote out = cond last (bad_out place at wrote out) out

-- Where the first record begins: the version stands at the trace's first byte.
unfoldable pub begin_of : (block : List ℕ) → (place : ℕ) → Option ℕ
begin_of block place = cond (ltb 0 place) (Some 0) (cond (eqb (get_or block 0 0) 1) (Some 1) None)

-- Where there is no version: a fault, unless its byte may still come.
abbrev pub no_version : (block : List ℕ) → (last : Bool) → Bool
no_version block last = cond (eqb (length block) 0) last true
