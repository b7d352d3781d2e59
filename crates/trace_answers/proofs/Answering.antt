-- Each record's line is that of the answer to its call.
use Rattle.std.proofs.Common.{◌≡◌, ℕ, zero, suc, ◌+◌, List, [], ◌∷◌, Bool, true, false, cond, Option, None, Some, refl, sym, ap, ◌∙◌, length, get_or}
use Rattle.std.proofs.Math.Dec.{leb, eqb}
use Rattle.cells.specs.Numbers.{part}
use Rattle.lines.specs.Lines.{pop_line}
use Rattle.attribute_records.specs.declared.Record.{Record}
use Rattle.records.specs.Records.{record_end, record_of}
use Rattle.stack.specs.Stores.{Stores}
use Rattle.accepting.specs.Accepting.{Answer}
use Rattle.ends.specs.Ends.{end_call, Popped}
use Rattle.starts.specs.Starts.{start_call}
use Rattle.resumes.specs.Resumes.{attributes_call}
use Rattle.reply_lines.specs.ReplyLines.{answer_line, popped_line}
use Rattle.replies.specs.Replies.{spoken, end_turn, popped_room}
use Rattle.answers.specs.Answers.{turn_by, turn_of, outline_room}
use Rattle.demand.specs.Statement.{HostCall, host_start_tag, host_attributes, host_end_tag, words_from, tag_answer, end_answer, called, made_in}
use Rattle.demand.proofs.Theorem.{demand-3-on-bytes}
use Rattle.making.specs.Making.{fresh_call}
use Rattle.trace_lines.specs.Lines.{Told, told, following, text_of, on_record, on_turn, bad_at, records_from, lines_of}
use Rattle.trace_lines.proofs.Cutting.{whole}
use Rattle.trace_answers.specs.Calls.{call_by, call_in, Heard, heard, in_record, calling, bad_from, calls_from, calls_of}
use Rattle.trace_answers.specs.Answering.{line_of, bad_line, after_calls, answer_lines, LinesAreAnswers, TracesAreAnswered}

-- ---- the line of an answer

tag-line : (a : Answer) (ids : List ℕ) → answer_line a ids ≡ line_of (tag_answer a ids)
unfolding answer_line line_of
tag-line (Answer.Match content) ids = refl
tag-line Answer.Attributes ids = refl
tag-line (Answer.Refused n) ids = refl

length_sets : (ids : List ℕ) (k n : ℕ) → length (words_from ids k n) ≡ n
unfolding words_from
length_sets ids k zero = refl
length_sets ids k (suc n) = ap suc (length_sets ids (k + 1) n)

pop-line : (p : Popped) (buffer : List ℕ) → popped_line p ≡ line_of (end_answer p buffer)
unfolding popped_line line_of
pop-line (Popped.Elements n) buffer = ap pop_line (sym (length_sets buffer 0 n))
pop-line (Popped.Refused n) buffer = refl

module _ (sheet program : List ℕ) where
  -- what is told of calls
  abbrev told_by : Heard → Stores → Told
  told_by h s = told (answer_lines sheet program s h) (after_calls sheet program s h.calls)

  line-told : (s : Stores) (call : HostCall) (line : List ℕ) (go : Stores → Told) (goes : Heard) → line ≡ line_of (called sheet program s call).0 → ((s' : Stores) → go s' ≡ told_by goes s')
      → following (line ∷ []) (go (called sheet program s call).1) ≡ told_by (heard (call ∷ goes.calls) goes.bad) s
  unfolding after_calls
  line-told s call line go goes e h = ap (λ (t : Told). following (line ∷ []) t) (h (called sheet program s call).1) ∙ ap (λ (l : List ℕ). following (l ∷ []) (told_by goes (called sheet program s call).1)) e

  turn-told : (s : Stores) (body : List ℕ) (rd : Option Record) (outlines : List ℕ) (bad go : Stores → Told) (bads goes : Heard) → bad s ≡ told_by bads s → ((s' : Stores) → go s' ≡ told_by goes s')
      → on_turn (turn_by sheet program s body rd outlines) bad go ≡ told_by (calling (call_by body rd outlines) bads goes) s
  unfolding turn_by call_by calling on_turn spoken end_turn
  turn-told s body (Some (Record.Start namespace)) outlines bad go bads goes e h =
      let o = start_call sheet program s namespace (part body 2 (length body)) in
      line-told s (host_start_tag namespace (part body 2 (length body))) (answer_line o.reply.answer o.reply.ids) go goes (tag-line o.reply.answer o.reply.ids) h
  turn-told s body (Some (Record.Attributes closing n)) outlines bad go bads goes e h =
      let o = attributes_call sheet program s closing body (part outlines 0 n) in
      line-told s (host_attributes closing body (part outlines 0 n)) (answer_line o.reply.answer o.reply.ids) go goes (tag-line o.reply.answer o.reply.ids) h
  turn-told s body (Some Record.End) outlines bad go bads goes e h =
      let o = end_call sheet program s (part body 1 (length body)) popped_room in
      line-told s (host_end_tag (part body 1 (length body)) popped_room) (popped_line o.answer) go goes (pop-line o.answer o.out) h
  turn-told s body None outlines bad go bads goes e h = e

  bad-told : (at : ℕ) (s : Stores) (trace : List ℕ) → bad_at sheet program trace at s ≡ told_by (bad_from trace at) s
  unfolding bad_line after_calls
  bad-told at s trace = refl

  module _ (trace : List ℕ) where
    pub records-told : (n at : ℕ) (s : Stores) → records_from sheet program trace n at s ≡ told_by (calls_from trace n at) s
    unfolding records_from calls_from on_record in_record bad_line after_calls turn_of
    records-told zero at s = refl
    records-told (suc n) at s = by (λ end s'. records-told n end s') (leb (length trace) at) (record_end trace at)
      where
        by : ((end : ℕ) (s' : Stores) → records_from sheet program trace n end s' ≡ told_by (calls_from trace n end) s') → (b : Bool) (c : Option ℕ)
            → cond b (told [] s)
            (on_record c (bad_at sheet program trace at s)
            (λ end. on_turn (turn_of sheet program s (part trace (at + 2) end)) (bad_at sheet program trace at) (λ after. records_from sheet program trace n end after)))
            ≡ told_by (cond b (heard [] None)
            (in_record c (bad_from trace at) (λ end. calling (call_in (part trace (at + 2) end)) (bad_from trace at) (calls_from trace n end)))) s
        by ih true c = refl
        by ih false None = bad-told at s trace
        by ih false (Some end) =
            let body = part trace (at + 2) end in
            turn-told s body (record_of body outline_room).said (record_of body outline_room).outlines (bad_at sheet program trace at) (λ after. records_from sheet program trace n end after) (bad_from trace at) (calls_from trace n end) (bad-told at s trace) (ih end)

    pub trace-told : (s : Stores) → lines_of sheet program trace s ≡ told_by (calls_of trace) s
    unfolding lines_of calls_of
    trace-told s = by (eqb (get_or trace 0 0) 1)
      where
        by : (b : Bool) → cond b (records_from sheet program trace (length trace) 1 s) (bad_at sheet program trace 0 s) ≡ told_by (cond b (calls_from trace (length trace) 1) (bad_from trace 0)) s
        by true = records-told (length trace) 1 s
        by false = bad-told 0 s trace

pub lines-are-answers : LinesAreAnswers
lines-are-answers sheet program trace s = trace-told sheet program trace s

pub traces-are-answered : TracesAreAnswered
traces-are-answered sheet bytes forest next parsed esi program s room fits ghost trace text after c =
    let m = fresh_call sheet esi program s in
    let h = calls_of trace in
    let d = demand-3-on-bytes sheet bytes forest next parsed esi program s room fits ghost h.calls in
    let t = (whole sheet m.program trace (made_in s m) after text c).0 in
    (d.0, d.1, t ∙ ap (λ (t : Told). text_of t.lines) (trace-told sheet m.program trace (made_in s m)))
