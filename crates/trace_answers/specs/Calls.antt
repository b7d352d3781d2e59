-- The calls that a trace makes of the machine, as its bytes say them, and where it is bad (01, section 8).
use Rattle.std.specs.Prelude.{cond, List, [], ◌∷◌, ℕ, zero, suc, ◌+◌, Option, None, Some, eqb, leb, length, get_or}
use Rattle.cells.specs.Numbers.{part}
use Rattle.attribute_records.specs.declared.Record.{Record}
use Rattle.records.specs.Records.{record_end, record_of}
use Rattle.replies.specs.Replies.{popped_room}
use Rattle.answers.specs.Answers.{outline_room}
use Rattle.demand.specs.Statement.{HostCall, host_start_tag, host_attributes, host_end_tag}

-- A record's call by what the record says: its body is the input that outlines speak of, and the ids of at most 256 popped elements have room.
unfoldable pub call_by : (body : List ℕ) → Option Record → (outlines : List ℕ) → Option HostCall
call_by body (Some (Record.Start namespace)) outlines = Some (host_start_tag namespace (part body 2 (length body)))
call_by body (Some (Record.Attributes closing n)) outlines = Some (host_attributes closing body (part outlines 0 n))
call_by body (Some Record.End) outlines = Some (host_end_tag (part body 1 (length body)) popped_room)
call_by body None outlines = None

abbrev pub call_in : (body : List ℕ) → Option HostCall
call_in body = call_by body (record_of body outline_room).said (record_of body outline_room).outlines

-- Calls, and where the trace is bad after them, if it is.
pub record Heard : Type 0 where
  pub calls : List HostCall
  pub bad : Option ℕ

abbrev pub heard : List HostCall → Option ℕ → Heard
heard calls bad = record { calls = calls; bad = bad }

unfoldable pub in_record : Option ℕ → Heard → (ℕ → Heard) → Heard
in_record None bad go = bad
in_record (Some end) bad go = go end

-- A call before others.
unfoldable pub calling : Option HostCall → (bad go : Heard) → Heard
calling None bad go = bad
calling (Some call) bad go = heard (call ∷ go.calls) go.bad

module _ (trace : List ℕ) where
  -- A trace is well formed where it is bad nowhere.
  abbrev pub bad_from : (at : ℕ) → Heard
  bad_from at = heard [] (Some at)

  unfoldable pub calls_from : (n at : ℕ) → Heard
  calls_from zero at = heard [] None
  calls_from (suc n) at =
      cond (leb (length trace) at) (heard [] None)
      (in_record (record_end trace at) (bad_from at) (λ end. calling (call_in (part trace (at + 2) end)) (bad_from at) (calls_from n end)))

  -- THE CALLS OF A TRACE: its first byte is the version, 1; the records follow.
  unfoldable pub calls_of : Heard
  calls_of = cond (eqb (get_or trace 0 0) 1) (calls_from (length trace) 1) (bad_from 0)
