-- A line is short: no answer's is longer than the 8,192 bytes of room that a run wants before each record.
use Rattle.std.proofs.Common.{◌≡◌, ℕ, zero, suc, ◌+◌, ◌-◌, ◌*◌, ◌/◌, ◌%◌, ◌≤◌, List, [], ◌∷◌, ◌++◌, Bool, true, false, cond, not, Option, None, Some, refl, ◌∙◌, arith, length, length-set}
use Rattle.std.specs.Prelude.{map}
use Rattle.std.proofs.Math.Dec.{ltb, eqb}
use Rattle.std.proofs.lemmas.List.{length-append}
use Rattle.letters.specs.Bytes.{lower_of}
use Rattle.names.specs.Names.{void_name}
use Rattle.cells.specs.Numbers.{part}
use Rattle.id_sets.specs.Ids.{has_id, ids_from, ids_of, with_id}
use Rattle.instructions.specs.FoundIds.{ids_of_node, with_ids, with_ids_of}
use Rattle.text.specs.Text.{digits, decimal}
use Rattle.lines.specs.Lines.{number_line, pop_word, refused_word, bad_trace_word, bad_trace_line}
use Rattle.match_lines.specs.MatchLines.{ids_text, match_word, content_word, match_line}
use Rattle.match_lines.proofs.Laws.{id-inside}
use Rattle.stack.specs.Stores.{Stores, held_name, released}
use Rattle.weighing.specs.Words.{no_ids}
use Rattle.weighing.specs.Weighing.{push_refusal, pairs_full, tag_refusal, attributes_refusal}
use Rattle.shapes.specs.Shapes.{state_refusal, esi_on}
use Rattle.course.specs.Course.{has_content, begin, kind_of}
use Rattle.exec.specs.Scans.{Sought, over, stopped}
use Rattle.accepting.specs.Accepting.{Outcome, refusing, accepted}
use Rattle.tags.specs.Tags.{whole, begun, lowered, given}
use Rattle.starts.specs.Starts.{start_call}
use Rattle.resumes.specs.Resumes.{attributes_call}
use Rattle.ends.specs.Ends.{end_call, Popped}
use Rattle.reply_lines.specs.ReplyLines.{answer_line, reply_line, popped_line}
use Rattle.replies.specs.Replies.{Turn, spoken, end_turn, popped_room}
use Rattle.attribute_records.specs.declared.Record.{Record}
use Rattle.records.specs.Records.{record_of}
use Rattle.answers.specs.Answers.{turn_by, turn_of, outline_room}

-- ---- numbers

digits-short : (k n : ℕ) → length (digits k n) ≤ k
unfolding digits
digits-short zero n = omega arith
digits-short (suc k) n = by (ltb n 10) (digits-short k (n / 10))
  where
    by : (b : Bool) → length (digits k (n / 10)) ≤ k → length (cond b ((48 + n % 10) ∷ []) (digits k (n / 10) ++ ((48 + n % 10) ∷ []))) ≤ suc k
    by true h = omega arith
    by false h = let e = length-append (digits k (n / 10)) ((48 + n % 10) ∷ []) in omega arith

decimal-short : (n : ℕ) → length (decimal n) ≤ 20
unfolding decimal
decimal-short n = digits-short 20 n

number-short : (word : List ℕ) (n : ℕ) → length (number_line word n) ≤ length word + 21
unfolding number_line
number-short word n =
    let d = decimal-short n in
    let e = length-append (word ++ decimal n) (10 ∷ []) in
    let f = length-append word (decimal n) in
    omega arith

pub bad-short : (place : ℕ) → length (bad_trace_line place) ≤ 8192
bad-short place = let h = number-short bad_trace_word place in omega arith

-- ---- ids

ids-short : (words : List ℕ) (id n : ℕ) → length (ids_text (ids_from words id n)) ≤ 21 * (64 * length words - id)
unfolding ids_from ids_text
ids-short words id zero = omega arith
ids-short words id (suc n) = by (has_id words id) refl (ids-short words (id + 1) n)
  where
    by : (b : Bool) → has_id words id ≡ b → length (ids_text (ids_from words (id + 1) n)) ≤ 21 * (64 * length words - (id + 1))
        → length (ids_text (cond b (id ∷ ids_from words (id + 1) n) (ids_from words (id + 1) n))) ≤ 21 * (64 * length words - id)
    by true e h =
        let i = id-inside words id e in
        let d = decimal-short id in
        let a = length-append (decimal id) (ids_text (ids_from words (id + 1) n)) in
        omega arith
    by false e h = omega arith

match-short : (words : List ℕ) (content : Bool) → length words ≡ 2 → length (match_line words content) ≤ 8192
unfolding match_line content_word ids_of
match-short words content e =
    let i = ids-short words 0 65536 in
    let a = length-append (match_word ++ ids_text (ids_from words 0 65536)) (content_word content) in
    let b = length-append match_word (ids_text (ids_from words 0 65536)) in
    let c = ends content in
    omega arith
  where
    ends : (c : Bool) → length (content_word c) ≤ 9
    ends true = omega arith
    ends false = omega arith

with_long : (words ids : List ℕ) → length (with_ids words ids) ≡ length words
unfolding with_ids with_id
with_long words [] = refl
with_long words (id ∷ ids) = with_long (with_id words id) ids ∙ length-set words (id / 64) _

found_long : (sheet program words found : List ℕ) → length (with_ids_of sheet program words found) ≡ length words
unfolding with_ids_of
found_long sheet program words [] = refl
found_long sheet program words (a ∷ found) = found_long sheet program (with_ids words (ids_of_node sheet program a)) found ∙ with_long words (ids_of_node sheet program a)

-- ---- answers

Short : Outcome → Type 0
Short o = length (reply_line o.reply) ≤ 8192

refusing-short : (number : ℕ) (s : Stores) → Short (refusing number s)
unfolding Short answer_line
refusing-short number s = let h = number-short refused_word number in omega arith

either-short : (b : Bool) (x y : Outcome) → Short x → Short y → Short (cond b x y)
either-short true x y h g = h
either-short false x y h g = g

module _ (sheet program : List ℕ) where
  accepted-short : (s : Stores) (name : List ℕ) (content : Bool) (found : List ℕ) → Short (accepted sheet program s name content found)
  unfolding Short answer_line accepted
  accepted-short s name content found = match-short (with_ids_of sheet program no_ids found) content (found_long sheet program no_ids found)

  whole-short : (old s : Stores) (name : List ℕ) (content : Bool) (found : List ℕ) → Short (whole sheet program old s name content found)
  unfolding whole
  whole-short old s name content found =
      either-short (not (eqb (push_refusal sheet program s.rows content found) 0)) _ _ (refusing-short (push_refusal sheet program s.rows content found) old) (accepted-short s name content found)

  begun-short : (s : Stores) (name : List ℕ) (kind : ℕ) (x : Sought) → Short (begun sheet program s name kind x)
  unfolding Short answer_line begun
  begun-short s name kind (over found) = whole-short s s name (has_content kind false) found
  begun-short s name kind (stopped found c) = omega arith

  start-short : (s : Stores) (namespace : ℕ) (name : List ℕ) → Short (start_call sheet program s namespace name)
  unfolding start_call lowered
  start-short s namespace name =
      let low = map lower_of name in
      let kind = kind_of namespace (void_name (esi_on s.rows) name) in
      either-short (not (eqb (state_refusal sheet program s) 0)) _ _ (refusing-short (state_refusal sheet program s) s)
      (either-short (not (eqb (tag_refusal s.rows namespace name) 0)) _ _ (refusing-short (tag_refusal s.rows namespace name) s)
      (either-short (pairs_full s.rows s.names low) _ _ (refusing-short 26 s) (begun-short s low kind (begin sheet program s.rows s.names s.nodes low kind))))

  attributes-short : (s : Stores) (self_closing : Bool) (input outlines : List ℕ) → Short (attributes_call sheet program s self_closing input outlines)
  unfolding attributes_call given
  attributes-short s self_closing input outlines =
      either-short (not (eqb (state_refusal sheet program s) 0)) _ _ (refusing-short (state_refusal sheet program s) s)
      (either-short (not (eqb (attributes_refusal s.rows input outlines) 0)) _ _ (refusing-short (attributes_refusal s.rows input outlines) s)
      (whole-short s (released s) (held_name s.rows s.names) _ _))

popped-short : (p : Popped) → length (popped_line p) ≤ 8192
unfolding popped_line
popped-short (Popped.Elements n) = let h = number-short pop_word n in omega arith
popped-short (Popped.Refused n) = let h = number-short refused_word n in omega arith

-- A turn's line.
abbrev pub ShortTurn : Turn → Type 0
ShortTurn (Turn.line text after) = length text ≤ 8192
ShortTurn (Turn.faulty after) = Unit {0}

turn-by-short : (sheet program : List ℕ) (s : Stores) (body : List ℕ) (r : Option Record) (outlines : List ℕ) → ShortTurn (turn_by sheet program s body r outlines)
unfolding turn_by spoken end_turn Short
turn-by-short sheet program s body (Some (Record.Start namespace)) outlines = start-short sheet program s namespace (part body 2 (length body))
turn-by-short sheet program s body (Some (Record.Attributes closing n)) outlines = attributes-short sheet program s closing body (part outlines 0 n)
turn-by-short sheet program s body (Some Record.End) outlines = popped-short (end_call sheet program s (part body 1 (length body)) popped_room).answer
turn-by-short sheet program s body None outlines = tt

pub turn-short : (sheet program : List ℕ) (s : Stores) (body : List ℕ) → ShortTurn (turn_of sheet program s body)
unfolding turn_of
turn-short sheet program s body = turn-by-short sheet program s body (record_of body outline_room).said (record_of body outline_room).outlines
