-- DEMAND 3 ON BYTES: every run of calls on a fresh machine is answered as the demand over selector trees says (`meaning`, Demand).
use Rattle.std.specs.Prelude.{◌≡◌, Bool, true, not, List, [], ◌∷◌, map, ℕ, zero, suc, ◌+◌, ◌*◌, ◌<◌, ◌≤◌, length, get_or}
use Rattle.cells.specs.Stretches.{cells_from}
use Rattle.letters.specs.Bytes.{lower_of}
use Rattle.names.specs.Names.{void_name}
use Rattle.rules.specs.Attributes.{good_outlines}
use Rattle.node_records.specs.Records.{NodeRecord}
use Rattle.sheet.specs.Parser.{Parsed, parse_sheet}
use Rattle.compiler.specs.Compiler.{places}
use Rattle.stack.specs.Stores.{Stores, stores, id_words}
use Rattle.shapes.specs.Shapes.{sized}
use Rattle.accepting.specs.Accepting as accepting
use Rattle.accepting.specs.Accepting.{Outcome}
use Rattle.making.specs.Making.{Made, Fresh, fresh_call}
use Rattle.ends.specs.Ends.{Popped, Top, Ended, end_call, id_set_call}
use Rattle.starts.specs.Starts.{start_call}
use Rattle.resumes.specs.Resumes.{attributes_call}
use Rattle.meaning.specs.Lists.{◌∈◌}
use Rattle.meaning.specs.Document as document
use Rattle.meaning.specs.Trees.{Forest, size}
use Rattle.meaning.specs.Elements.{Where, Tag, Given}
use Rattle.meaning.specs.Limits.{section_2, refusals}
use Rattle.meaning.specs.Demand.{idle, Goes}
use Rattle.meaning.specs.Calls.{Refusals, Call, start_tag, attributes, end_tag, ids_asked, Answer, matched, attributes_wanted, popped, top_ids, nothing_open, refused}
use Rattle.demand.specs.Sheets.{Lent, lent_tests, sheet_program}

-- The refusals of 01, section 2, with its numbers.
abbrev pub refusing : Refusals Lent
refusing = refusals section_2 (λ lent. not (good_outlines lent.input lent.outlines))

-- A call as a host makes it: start tag, attributes of the waiting tag, end tag with the buffer for popped ids, id set asked.
pub data HostCall : Type 0 where
  host_start_tag : (namespace : ℕ) → (name : List ℕ) → HostCall
  host_attributes : (self_closing : Bool) → (input outlines : List ℕ) → HostCall
  host_end_tag : (name buffer : List ℕ) → HostCall
  host_ids_asked : HostCall

-- What it says: names lower-cased, and whether a start tag's name is void.
abbrev pub call_of : (esi : Bool) → HostCall → Call Lent
call_of esi (host_start_tag namespace name) = start_tag (record { name = map lower_of name; namespace = namespace; void = void_name esi name })
call_of esi (host_attributes self_closing input outlines) = attributes (record { self_closing = self_closing; attributes = record { input = input; outlines = outlines } })
call_of esi (host_end_tag name buffer) = end_tag (map lower_of name) (length buffer)
call_of esi host_ids_asked = ids_asked

-- The id sets in a buffer: those of n elements from element k on.
unfoldable pub words_from : List ℕ → ℕ → ℕ → List (List ℕ)
words_from ids k zero = []
words_from ids k (suc n) = cells_from ids (k * id_words) id_words ∷ words_from ids (k + 1) n

-- The answers, with the ids that come beside them.
abbrev pub tag_answer : accepting.Answer → (ids : List ℕ) → Answer (List ℕ)
tag_answer (accepting.Answer.Match content) ids = matched ids content
tag_answer accepting.Answer.Attributes ids = attributes_wanted
tag_answer (accepting.Answer.Refused number) ids = refused number

abbrev pub end_answer : Popped → (buffer : List ℕ) → Answer (List ℕ)
end_answer (Popped.Elements n) buffer = popped (words_from buffer 0 n)
end_answer (Popped.Refused number) buffer = refused number

abbrev pub top_answer : Top → (ids : List ℕ) → Answer (List ℕ)
top_answer Top.Ids ids = top_ids ids
top_answer Top.NothingOpen ids = nothing_open
top_answer (Top.Refused number) ids = refused number

abbrev pub tag_answered : Outcome → Answer (List ℕ) × Stores
tag_answered o = (tag_answer o.reply.answer o.reply.ids, o.after)

abbrev pub end_answered : Stores → Ended → Answer (List ℕ) × Stores
end_answered s o = (end_answer o.answer o.out, stores o.rows s.names s.ids s.nodes)

module _ (sheet program : List ℕ) where
  -- One call on the stores: its answer, and the stores after it.
  abbrev pub called : Stores → HostCall → Answer (List ℕ) × Stores
  called s (host_start_tag namespace name) = tag_answered (start_call sheet program s namespace name)
  called s (host_attributes self_closing input outlines) = tag_answered (attributes_call sheet program s self_closing input outlines)
  called s (host_end_tag name buffer) = end_answered s (end_call sheet program s name buffer)
  called s host_ids_asked = (top_answer (id_set_call sheet program s).top (id_set_call sheet program s).ids, s)

  -- The answers to a list of calls, each on the stores that the one before it left.
  abbrev pub answers : Stores → List HostCall → List (Answer (List ℕ))
  answers s [] = []
  answers s (x ∷ xs) = (called s x).0 ∷ answers (called s x).1 xs

-- The stores after a machine is made in them.
abbrev pub made_in : Stores → Fresh → Stores
made_in s m = stores m.rows s.names s.ids s.nodes

-- THE DEMAND: for every sheet of bytes that is good, every ESI flag, an instruction store and state stores of sufficient length, whatever they hold, whatever attributes go unseen, and every list of calls:
-- the machine is made, the calls are answered as the demand over the sheet's selector trees says, and none gets 30 (nor 31). Proved in proofs/Theorem: `demand-3-on-bytes`.
abbrev pub Demand3OnBytes : Type 0
Demand3OnBytes =
    (sheet : List ℕ) → ((i : ℕ) → get_or sheet i 0 < 256) → (forest : Forest NodeRecord) (next : ℕ) → parse_sheet sheet ≡ Parsed.read forest next
    → (esi : Bool) (program : List ℕ) (s : Stores) → size forest ≤ places program → sized s ≡ true → (ghost : Where Lent → Tag → Given Lent) (xs : List HostCall)
    → ((fresh_call sheet esi program s).made ≡ Made.Ready)
    × Goes lent_tests forest (sheet_program forest) refusing ghost (idle document.start) (map (call_of esi) xs) (answers sheet (fresh_call sheet esi program s).program (made_in s (fresh_call sheet esi program s)) xs)
    × ((r : ℕ) → refused r ∈ answers sheet (fresh_call sheet esi program s).program (made_in s (fresh_call sheet esi program s)) xs → r < 30)
