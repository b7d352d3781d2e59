-- Each turn is a run over a block that stands in the trace, and the next block stands where it stopped.
use Rattle.std.proofs.Common.{◌≡◌, ℕ, zero, suc, ◌+◌, ◌-◌, ◌<◌, ◌≤◌, List, [], ◌∷◌, ◌++◌, Bool, true, false, Some, refl, sym, ap, subst, ◌∙◌, arith, length, take, drop, get_or}
use Rattle.std.specs.Prelude.{slice_range}
use Rattle.std.proofs.Math.Seq.{take-add, drop-drop}
use Rattle.std.proofs.Math.Dec.{ltb}
use Rattle.std.proofs.lemmas.Bool.{ltb-true, ltb-false}
use Rattle.std.proofs.lemmas.List.{append_assoc, length-append, length-take-le, length-drop, take-append-drop, drop-take}
use Rattle.stack.specs.Stores.{Stores}
use Rattle.block_ends.specs.declared.Fed.{Fed}
use Rattle.block_ends.specs.declared.Halt.{Halt}
use Rattle.trace.specs.Run.{Ran}
use Rattle.trace_blocks.specs.Progress.{run_of, advanced, ReadOn, Refilled, Turned}
use Rattle.trace_blocks.specs.declared.Progress.{Progress}
use Rattle.trace_lines.specs.Cuttings as cuttings
use Rattle.trace_lines.specs.Cuttings.{Stands, Feeds, Cutting, said, onwards}
use Rattle.trace_lines.proofs.Records.{byte_in}
use Rattle.trace_lines.proofs.Splitting.{false_no}
use Rattle.trace_lines.proofs.Cutting.{whole}
use Rattle.making.specs.Making.{fresh_call}
use Rattle.demand.specs.Statement.{made_in}
use Rattle.trace_answers.proofs.Answering.{traces-are-answered}
use Rattle.trace_turns.specs.Answered.{TurnsAreAnswered}
use Rattle.trace_turns.specs.Turns.{at_start, OneTurn, Turns, last_turn, next_turn, TurnsAreACutting, TurnsWriteTheLines}
use Rattle.trace_turns.proofs.Bounds.{Bounded, feed-bounded}

past : (xs : List ℕ) (i : ℕ) → length xs ≤ i → get_or xs i 0 ≡ 0
past [] i h = refl
past (x ∷ xs) zero h = absurd (let q : ⊥ = omega arith in q)
past (x ∷ xs) (suc i) h = past xs i (omega arith)

-- bytes of a block of a trace of bytes
bytes_in : (before block more : List ℕ) → ((i : ℕ) → get_or (before ++ (block ++ more)) i 0 < 256) → (i : ℕ) → get_or block i 0 < 256
bytes_in before block more h i = by (ltb i (length block)) refl
  where
    by : (b : Bool) → ltb i (length block) ≡ b → get_or block i 0 < 256
    by true e = subst (λ (k : ℕ). k < 256) (byte_in before block more i (ltb-true i (length block) e)) (h (length before + i))
    by false e = rw (past block i (ltb-false i (length block) e)) (omega arith)

-- a slice from further on
slice-after : (xs : List ℕ) (at end used : ℕ) → used ≤ end - at → drop used (slice_range xs at end) ≡ slice_range xs (at + used) end
slice-after xs at end used h =
    let e : end - at ≡ used + (end - (at + used)) = omega arith in
    rw e (drop-take used (end - (at + used)) (drop at xs) ∙ ap (take (end - (at + used))) (drop-drop used at xs))

slice-length : (xs : List ℕ) (at end : ℕ) → at ≤ end → end ≤ length xs → length (slice_range xs at end) ≡ end - at
slice-length xs at end h g = length-take-le (end - at) (drop at xs) (rw (length-drop at xs) (omega arith))

slice-front : (xs : List ℕ) (k end : ℕ) → k ≤ end → slice_range xs 0 end ≡ take k xs ++ slice_range xs k end
slice-front xs k end h = let e : end - 0 ≡ k + (end - k) = omega arith in rw e (take-add k (end - k) xs)

-- What is still to be read stands in the trace: a block in the buffer, and what the reader has left.
record Reads (trace : List ℕ) (p : Progress) (input rest : List ℕ) : Type 0 where
  before : List ℕ
  is : before ++ (slice_range input p.at p.end ++ rest) ≡ trace
  at : length before ≡ p.place
  end : p.last ≡ true → rest ≡ []

-- after a run, the block begins where it stopped
reads-on : (trace : List ℕ) (p : Progress) (input rest : List ℕ) (f : Fed) → Reads trace p input rest → f.used ≤ length (slice_range input p.at p.end) → f.used ≤ p.end - p.at → Reads trace (advanced p f) input rest
reads-on trace p input rest f r h g =
    let s = slice_range input p.at p.end in
    let s' = slice_range input (p.at + f.used) p.end in
    let cut : take f.used s ++ s' ≡ s = ap (λ (l : List ℕ). take f.used s ++ l) (sym (slice-after input p.at p.end f.used g)) ∙ take-append-drop f.used s in
    let a = r.at in
    record {
      before = r.before ++ take f.used s;
      is = append_assoc r.before (take f.used s) (s' ++ rest) ∙ ap (λ (l : List ℕ). r.before ++ l) (sym (append_assoc (take f.used s) s' rest) ∙ ap (λ (l : List ℕ). l ++ rest) cut) ∙ r.is;
      at = length-append r.before (take f.used s) ∙ ap (λ (k : ℕ). length r.before + k) (length-take-le f.used s h) ∙ ap (λ (k : ℕ). k + f.used) a;
      end = r.end;
    }

-- after a read, the block goes on with what it brought
reads-more : (trace : List ℕ) (p : Progress) (input rest : List ℕ) (q : Progress) (input' rest' : List ℕ) → Reads trace p input rest → ReadOn (Some rest) (Some rest') p input q input' → p.end - p.at < length input
    → Reads trace q input' rest'
reads-more trace p input rest q input' rest' r o room =
    let k = p.end - p.at in
    let brought = slice_range input' k q.end in
    let block : slice_range input' q.at q.end ≡ slice_range input p.at p.end ++ brought =
    rw (o.at_front) (slice-front input' k q.end o.grows ∙ ap (λ (l : List ℕ). l ++ brought) o.kept) in
    record {
      before = r.before;
      is = ap (λ (l : List ℕ). r.before ++ (l ++ rest')) block
          ∙ ap (λ (l : List ℕ). r.before ++ l) (append_assoc (slice_range input p.at p.end) brought rest' ∙ ap (λ (l : List ℕ). slice_range input p.at p.end ++ l) (sym o.taken))
          ∙ r.is;
      at = r.at ∙ sym o.place;
      end = λ e. o.at_end e room;
    }

-- How a turn ends.
data Step (trace : List ℕ) (p : Progress) (f : Fed) (q : Progress) (input' rest' : List ℕ) : Type 0 where
  over : f.halt ≡ Halt.Over → q.halt ≡ Halt.Over → Step trace p f q input' rest'
  at_end : p.last ≡ true → f.halt ≡ Halt.Hungry → q.halt ≡ Halt.Over → Step trace p f q input' rest'
  goes : (f.halt ≡ Halt.Over → ⊥) → (q.halt ≡ Halt.Over → ⊥) → q.place ≡ p.place + f.used → Reads trace q input' rest' → Step trace p f q input' rest'

no-over : (h : Halt) → h ≡ Halt.Full → h ≡ Halt.Over → ⊥
no-over h e f = let z : ◌≡◌ {A = ℕ} 0 1 = cc in omega arith

hungry-over : (h : Halt) → h ≡ Halt.Hungry → h ≡ Halt.Over → ⊥
hungry-over h e f = let z : ◌≡◌ {A = ℕ} 0 1 = cc in omega arith

module _ (trace : List ℕ) (p : Progress) (input rest : List ℕ) (f : Fed) (q : Progress) (input' rest' : List ℕ) (r : Reads trace p input rest) where
  module _ (sound : p.at ≤ p.end) (inside : p.end ≤ length input) (block : length input ≡ 131072) (b : Bounded (slice_range input p.at p.end) f) where
    on : Reads trace (advanced p f) input rest
    on = let l = slice-length input p.at p.end sound inside in let u = b.0 in reads-on trace p input rest f r u (omega arith)

    refilled : (l : Bool) → p.last ≡ l → f.halt ≡ Halt.Hungry → Refilled l (Some rest) (Some rest') (advanced p f) input q input' → Step trace p f q input' rest'
    refilled true e h t = at_end e h (ap (λ (x : Progress). x.halt) t.0)
    refilled false e h t =
        let l = slice-length input p.at p.end sound inside in
        let u = b.0 in
        let w = b.1 h in
        goes (hungry-over f.halt h) (no-over q.halt t.goes_on) t.place (reads-more trace (advanced p f) input rest q input' rest' on t (omega arith))

    stepped : (h : Halt) → f.halt ≡ h → Turned h (Some rest) (Some rest') (advanced p f) input q input' → Step trace p f q input' rest'
    stepped Halt.Over e t = over e (ap (λ (x : Progress). x.halt) t.0 ∙ e)
    stepped Halt.Full e t =
        goes (no-over f.halt e) (no-over q.halt (ap (λ (x : Progress). x.halt) t.0 ∙ e)) (ap (λ (x : Progress). x.place) t.0)
        (subst (λ (x : Progress). Reads trace x input' rest') (sym t.0) (subst (λ (l : List ℕ). Reads trace (advanced p f) l rest') (sym t.1) (subst (λ (l : List ℕ). Reads trace (advanced p f) input l) (sym t.2) on)))
    stepped Halt.Hungry e t = refilled p.last refl e t

module _ (sheet program trace : List ℕ) (bytes : (i : ℕ) → get_or trace i 0 < 256) where
  module _ (p : Progress) (input rest : List ℕ) (s : Stores) (out : List ℕ) (r : Reads trace p input rest) where
    abbrev ran : Ran
    ran = run_of sheet program p input out s

    feeds : length out ≡ 65536 → Feeds sheet program trace p.place s p.last ran
    feeds room = record {
      block = slice_range input p.at p.end;
      out = out;
      stands = record { before = r.before; more = rest; is = r.is; at = r.at; end = r.end };
      is = refl;
      room = omega arith;
    }

    step_of : (q : Progress) (input' rest' : List ℕ) → OneTurn sheet program p input rest s out q input' rest' → Step trace p ran.fed q input' rest'
    step_of q input' rest' o =
        let block = slice_range input p.at p.end in
        let all : (i : ℕ) → get_or block i 0 < 256 = bytes_in r.before block rest (subst (λ (l : List ℕ). (i : ℕ) → get_or l i 0 < 256) (sym r.is) bytes) in
        stepped trace p input rest ran.fed q input' rest' r o.sound.0 o.sound.1 o.block (feed-bounded sheet program block p.last p.place out s all) ran.fed.halt refl o.value

    last-cuts : (q : Progress) (input' rest' : List ℕ) → length out ≡ 65536 → q.halt ≡ Halt.Over → Step trace p ran.fed q input' rest' → Cutting sheet program trace p.place s (take ran.fed.wrote ran.out) ran.after
    last-cuts q input' rest' room e (over h f) = said ran (feeds room) h
    last-cuts q input' rest' room e (at_end l h f) = cuttings.ended ran (subst (λ (b : Bool). Feeds sheet program trace p.place s b ran) l (feeds room)) h
    last-cuts q input' rest' room e (goes h f place reads) = absurd (f e)

    next-cuts : (q : Progress) (input' rest' text : List ℕ) (after : Stores) → length out ≡ 65536 → (q.halt ≡ Halt.Over → ⊥) → Step trace p ran.fed q input' rest'
        → (Reads trace q input' rest' → Cutting sheet program trace q.place ran.after text after) → Cutting sheet program trace p.place s (take ran.fed.wrote ran.out ++ text) after
    next-cuts q input' rest' text after room e (over h f) ih = absurd (e f)
    next-cuts q input' rest' text after room e (at_end l h f) ih = absurd (e f)
    next-cuts q input' rest' text after room e (goes h f place reads) ih = onwards ran (feeds room) h (subst (λ (k : ℕ). Cutting sheet program trace k ran.after text after) place (ih reads))

  turns-from : (p : Progress) (input rest : List ℕ) (s : Stores) (text : List ℕ) (after : Stores) → Reads trace p input rest → Turns sheet program p input rest s text after → Cutting sheet program trace p.place s text after
  turns-from p input rest s text after r (last_turn out q input' rest' o e) = last-cuts p input rest s out r q input' rest' o.room e (step_of p input rest s out r q input' rest' o)
  turns-from p input rest s text after r (next_turn {text = more} out q input' rest' o e t) =
      next-cuts p input rest s out r q input' rest' more after o.room e (step_of p input rest s out r q input' rest' o) (λ reads. turns-from q input' rest' (run_of sheet program p input out s).after more after reads t)

pub turns-cut : TurnsAreACutting
turns-cut sheet program trace input text s after bytes t =
    turns-from sheet program trace bytes at_start input trace s text after (record { before = []; is = refl; at = refl; end = λ e. false_no refl e }) t

pub turns-write : TurnsWriteTheLines
turns-write sheet program trace input text s after bytes t = whole sheet program trace s after text (turns-cut sheet program trace input text s after bytes t)

pub turns-answered : TurnsAreAnswered
turns-answered sheet bytes forest next parsed esi program s room fits ghost trace input text after trace-bytes t =
    let m = fresh_call sheet esi program s in
    traces-are-answered sheet bytes forest next parsed esi program s room fits ghost trace text after (turns-cut sheet m.program trace input text (made_in s m) after trace-bytes t)
