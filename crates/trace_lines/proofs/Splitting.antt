-- A run over a block says the front of what its trace is answered by.
use Rattle.std.proofs.Common.{◌≡◌, ℕ, zero, suc, ◌+◌, ◌-◌, ◌<◌, ◌≤◌, List, [], ◌∷◌, ◌++◌, Bool, true, false, cond, Option, None, Some, refl, sym, ap, subst, ◌∙◌, arith, length, take, drop, get_or}
use Rattle.std.proofs.Math.Dec.{ltb, leb}
use Rattle.std.proofs.Math.Seq.{drop-cons}
use Rattle.std.proofs.lemmas.Bool.{le-leb, lt-leb, leb-false, leb-true, ltb-true, ltb-false, lt-ltb, le-ltb}
use Rattle.std.proofs.lemmas.List.{append-nil, append_assoc}
use Rattle.cells.specs.Numbers.{part}
use Rattle.cells.specs.Stretches.{cells_or, cells_from, written, length-written, cells_in, cells-below, cells-cat}
use Rattle.lines.specs.Lines.{bad_trace_line}
use Rattle.records.specs.Records.{record_end}
use Rattle.stack.specs.Stores.{Stores}
use Rattle.answers.specs.Answers.{turn_of}
use Rattle.replies.specs.Replies.{Turn, saying}
use Rattle.block_ends.specs.BlockEnds.{fed, bad_fed, cut_fed}
use Rattle.block_ends.specs.declared.Halt.{Halt}
use Rattle.trace.specs.Run.{Ran, ran, bad_run, cut_run, on_cut, on_said, answers_from}
use Rattle.trace_lines.specs.Lines.{Told, told, following, text_of, on_turn, bad_at, records_from, lines_from}
use Rattle.trace_lines.specs.Cuttings.{left_by}
use Rattle.trace_lines.proofs.Records.{rec-done, rec-cut, rec-turn, whole_in, enough, long, whole-inside, part-inside, short-inside}

-- ---- what stands in the buffer

cells_are : (xs : List ℕ) (a n : ℕ) → a + n ≤ length xs → cells_from xs a n ≡ take n (drop a xs)
unfolding cells_or
cells_are xs a zero h = refl
cells_are xs a (suc n) h =
    let lt : a < length xs = omega arith in
    let e : suc a ≡ a + 1 = omega arith in
    rw (drop-cons xs a 0, e) (ap (λ l. get_or xs a 0 ∷ l) (cells_are xs (a + 1) n (omega arith)))

pub text-after : (xs : List ℕ) (a : ℕ) (vs : List ℕ) → a + length vs ≤ length xs → take (a + length vs) (written xs a vs) ≡ take a xs ++ vs
text-after xs a vs h =
    let k = length-written xs a vs in
    sym (cells_are (written xs a vs) 0 (a + length vs) (omega arith))
    ∙ (let z : 0 + a ≡ a = omega arith in let c = cells-cat (written xs a vs) 0 a (length vs) in rw z at c)
    ∙ (λ i. (cells-below xs a vs 0 a (omega arith) ∙ cells_are xs 0 a (omega arith)) i ++ cells_in xs a vs h i)

-- ---- no run takes back what it wrote

module _ (sheet program block : List ℕ) (last : Bool) (place : ℕ) where
  pub grows : (n at wrote : ℕ) (out : List ℕ) (s : Stores) → wrote ≤ (answers_from sheet program block last place n at wrote out s).fed.wrote
  unfolding answers_from saying on_said on_cut
  grows zero at wrote out s = omega arith
  grows (suc n) at wrote out s = by (λ end next out' s'. grows n end next out' s') (leb (length block) at) (ltb (length out - wrote) 8192) (record_end block at)
    where
      cut : (l : Bool) → wrote ≤ (cut_fed l place at wrote).wrote
      cut true = omega arith
      cut false = omega arith

      turn : ((end next : ℕ) (out' : List ℕ) (s' : Stores) → next ≤ (answers_from sheet program block last place n end next out' s').fed.wrote) → (end : ℕ) (t : Turn) → wrote ≤ (on_said (saying t out wrote) (λ out' s'. bad_run place at wrote out' s') (λ next out' s'. answers_from sheet program block last place n end next out' s')).fed.wrote
      turn ih end (Turn.line text after) = let g = ih end (wrote + length text) (written out wrote text) after in omega arith
      turn ih end (Turn.faulty after) = omega arith

      by : ((end next : ℕ) (out' : List ℕ) (s' : Stores) → next ≤ (answers_from sheet program block last place n end next out' s').fed.wrote) → (b c : Bool) (r : Option ℕ) → wrote ≤ (cond b (ran (fed at wrote Halt.Hungry) out s)
          (cond c (ran (fed at wrote Halt.Full) out s)
          (on_cut r
          (cut_run last place at wrote out s)
          (λ end. on_said (saying (turn_of sheet program s (part block (at + 2) end)) out wrote)
          (λ out' s'. bad_run place at wrote out' s')
          (λ next out' s'. answers_from sheet program block last place n end next out' s'))))).fed.wrote
      by ih true c r = omega arith
      by ih false true r = omega arith
      by ih false false None = cut last
      by ih false false (Some end) = turn ih end (turn_of sheet program s (part block (at + 2) end))

-- ---- the run over a block, one step at a time

module _ (sheet program block : List ℕ) (last : Bool) (place : ℕ) where
  run-done : (n at wrote : ℕ) (out : List ℕ) (s : Stores) → length block ≤ at → ran (fed at wrote Halt.Hungry) out s ≡ answers_from sheet program block last place n at wrote out s
  unfolding answers_from
  run-done zero at wrote out s h = refl
  run-done (suc n) at wrote out s h = simp (le-leb _ _ h)

  module _ (n at wrote : ℕ) (out : List ℕ) (s : Stores) (h : at < length block) where
    run-full : length out - wrote < 8192 → ran (fed at wrote Halt.Full) out s ≡ answers_from sheet program block last place (suc n) at wrote out s
    unfolding answers_from
    run-full g = simp (lt-leb _ _ h, lt-ltb _ _ g)

    run-cut : 8192 ≤ length out - wrote → record_end block at ≡ None → cut_run last place at wrote out s ≡ answers_from sheet program block last place (suc n) at wrote out s
    unfolding answers_from on_cut
    run-cut g e = simp (lt-leb _ _ h, le-ltb _ _ g, e)

    module _ (g : 8192 ≤ length out - wrote) (end : ℕ) (e : record_end block at ≡ Some end) (after : Stores) where
      run-faulty : turn_of sheet program s (part block (at + 2) end) ≡ Turn.faulty after → bad_run place at wrote out after ≡ answers_from sheet program block last place (suc n) at wrote out s
      unfolding answers_from on_cut on_said saying
      run-faulty t = simp (lt-leb _ _ h, le-ltb _ _ g, e, t)

      run_line : (text : List ℕ) → turn_of sheet program s (part block (at + 2) end) ≡ Turn.line text after
          → answers_from sheet program block last place n end (wrote + length text) (written out wrote text) after ≡ answers_from sheet program block last place (suc n) at wrote out s
      unfolding answers_from on_cut on_said saying
      run_line text t = simp (lt-leb _ _ h, le-ltb _ _ g, e, t)

-- What a run over records says, from its place in a trace on: its text comes behind what stood in the buffer.
pub record Says (sheet program trace : List ℕ) (last : Bool) (place at wrote : ℕ) (out : List ℕ) (s : Stores) (r : Ran) : Type 0 where
  pub lines : List (List ℕ)
  pub text : take r.fed.wrote r.out ≡ take wrote out ++ text_of lines
  pub whole : (m : ℕ) → length trace ≤ at + m → following lines (left_by sheet program trace r.fed.halt (place + r.fed.used) r.after) ≡ records_from sheet program trace m at s
  pub all : last ≡ true → r.fed.halt ≡ Halt.Hungry → left_by sheet program trace r.fed.halt (place + r.fed.used) r.after ≡ told [] r.after

pub full_no : {A : Type 0} → Halt.Full ≡ Halt.Hungry → A
full_no e = absurd (let z : ◌≡◌ {A = ℕ} 0 1 = cc in let q : ⊥ = omega arith in q)

pub over_no : {A : Type 0} → Halt.Over ≡ Halt.Hungry → A
over_no e = absurd (let z : ◌≡◌ {A = ℕ} 0 1 = cc in let q : ⊥ = omega arith in q)

pub false_no : {A : Type 0} {b : Bool} → b ≡ false → b ≡ true → A
false_no e f = absurd (let z : ◌≡◌ {A = Bool} true false = cc in cc)

module _ (sheet program trace : List ℕ) where
  pub resumed : (n at : ℕ) (s : Stores) → 0 < at → length trace ≤ at + n → lines_from sheet program trace at s ≡ records_from sheet program trace n at s
  unfolding lines_from
  resumed n at s h g = simp (lt-ltb _ _ h) (enough sheet program trace (length trace) n at s (omega arith) g)

  module _ (last : Bool) (place at wrote : ℕ) (out : List ℕ) (s : Stores) where
    -- nothing said
    says-hungry : 0 < place + at → (last ≡ true → length trace ≤ place + at) → Says sheet program trace last place (place + at) wrote out s (ran (fed at wrote Halt.Hungry) out s)
    unfolding text_of
    says-hungry h g = record {
      lines = [];
      text = sym (append-nil (take wrote out));
      whole = λ m g. resumed m (place + at) s h g;
      all = λ l e. let k = g l in resumed zero (place + at) s h (omega arith) ∙ rec-done sheet program trace zero (place + at) s k;
    }

    says-full : 0 < place + at → Says sheet program trace last place (place + at) wrote out s (ran (fed at wrote Halt.Full) out s)
    unfolding text_of
    says-full h = record { lines = []; text = sym (append-nil (take wrote out)); whole = λ m g. resumed m (place + at) s h g; all = λ l e. full_no e }

    -- the last line
    says-bad : (after : Stores) → ((m : ℕ) → length trace ≤ place + at + m → bad_at sheet program trace (place + at) after ≡ records_from sheet program trace m (place + at) s)
        → (bad_fed place at wrote).wrote ≤ length out → Says sheet program trace last place (place + at) wrote out s (bad_run place at wrote out after)
    unfolding text_of
    says-bad after e f = record {
      lines = bad_trace_line (place + at) ∷ [];
      text = text-after out wrote (bad_trace_line (place + at)) f ∙ ap (λ l. take wrote out ++ l) (sym (append-nil (bad_trace_line (place + at))));
      whole = e;
      all = λ l h. over_no h;
    }

module _ (sheet program before block more : List ℕ) (last : Bool) (ends : last ≡ true → more ≡ []) where
  abbrev trace_of : List ℕ
  trace_of = before ++ (block ++ more)

  abbrev run_from : (n at wrote : ℕ) → (out : List ℕ) → Stores → Ran
  run_from n at wrote out s = answers_from sheet program block last (length before) n at wrote out s

  abbrev SaysFrom : (at wrote : ℕ) → (out : List ℕ) → Stores → Ran → Type 0
  SaysFrom at wrote out s r = r.fed.wrote ≤ length out → Says sheet program trace_of last (length before) (length before + at) wrote out s r

  turn_inside : (at end : ℕ) (s : Stores) → at + 2 ≤ end → end ≤ length block
      → turn_of sheet program s (part trace_of (length before + at + 2) (length before + end)) ≡ turn_of sheet program s (part block (at + 2) end)
  turn_inside at end s h g =
      let e : length before + at + 2 ≡ length before + (at + 2) = omega arith in
      rw (e, part-inside before block more (at + 2) end h g)

  -- a record of the trace, by what it is in the block
  module _ (at : ℕ) (s : Stores) (h : at < length block) where
    inside : length before + at < length trace_of
    inside = let l = long before block more in omega arith

    step-cut : last ≡ true → record_end block at ≡ None → (m : ℕ) → length trace_of ≤ length before + at + m
        → bad_at sheet program trace_of (length before + at) s ≡ records_from sheet program trace_of m (length before + at) s
    step-cut l e zero g = let i = inside in absurd (let q : ⊥ = omega arith in q)
    step-cut l e (suc m) g = sym (rec-cut sheet program trace_of m (length before + at) s inside short)
      where
        short : record_end trace_of (length before + at) ≡ None
        short = rw (ends l) (short-inside before block at e)

    step-turn : (end : ℕ) (t : Turn) → record_end block at ≡ Some end → turn_of sheet program s (part block (at + 2) end) ≡ t → (m : ℕ) → length trace_of ≤ length before + at + suc m
        → on_turn t (bad_at sheet program trace_of (length before + at)) (λ after. records_from sheet program trace_of m (length before + end) after) ≡ records_from sheet program trace_of (suc m) (length before + at) s
    step-turn end t e q m g =
        let w = whole_in block at end e in
        sym (
        rec-turn sheet program trace_of m (length before + at) s (length before + end) inside (whole-inside before block more at end e)
        ∙ ap (λ (x : Turn). on_turn x (bad_at sheet program trace_of (length before + at)) (λ after. records_from sheet program trace_of m (length before + end) after)) (turn_inside at end s (omega arith) (omega arith) ∙ q)
        )

    step-faulty : (end : ℕ) (after : Stores) → record_end block at ≡ Some end → turn_of sheet program s (part block (at + 2) end) ≡ Turn.faulty after → (m : ℕ) → length trace_of ≤ length before + at + m
        → bad_at sheet program trace_of (length before + at) after ≡ records_from sheet program trace_of m (length before + at) s
    unfolding on_turn
    step-faulty end after e q zero g = let i = inside in absurd (let q : ⊥ = omega arith in q)
    step-faulty end after e q (suc m) g = step-turn end (Turn.faulty after) e q m g

    -- a line, and what is said from the next record on
    step_line : (end wrote : ℕ) (out text : List ℕ) (after : Stores) (r : Ran) → record_end block at ≡ Some end → turn_of sheet program s (part block (at + 2) end) ≡ Turn.line text after
        → wrote + length text ≤ length out
        → Says sheet program trace_of last (length before) (length before + end) (wrote + length text) (written out wrote text) after r
        → Says sheet program trace_of last (length before) (length before + at) wrote out s r
    unfolding text_of on_turn
    step_line end wrote out text after r e q f says = record {
      lines = text ∷ says.lines;
      text = says.text ∙ ap (λ l. l ++ text_of says.lines) (text-after out wrote text f) ∙ append_assoc (take wrote out) text (text_of says.lines);
      whole = whole;
      all = says.all;
    }
      where
        whole : (m : ℕ) → length trace_of ≤ length before + at + m
            → following (text ∷ says.lines) (left_by sheet program trace_of r.fed.halt (length before + r.fed.used) r.after) ≡ records_from sheet program trace_of m (length before + at) s
        whole zero g = let i = inside in absurd (let q : ⊥ = omega arith in q)
        whole (suc m) g =
            let w = whole_in block at end e in
            ap (λ (x : Told). following (text ∷ []) x) (says.whole m (omega arith)) ∙ step-turn end (Turn.line text after) e q m g

  to_end : (at : ℕ) → length block ≤ at → last ≡ true → length trace_of ≤ length before + at
  to_end at h l =
      let k = long before block more in
      let z : length more ≡ 0 = ap length (ends l) in
      omega arith

  pub run-says : (n at wrote : ℕ) (out : List ℕ) (s : Stores) → at ≤ length block → length block ≤ at + n → 0 < length before + at → SaysFrom at wrote out s (run_from n at wrote out s)
  run-says zero at wrote out s h g p f = subst (SaysFrom at wrote out s) (run-done sheet program block last (length before) zero at wrote out s (omega arith)) (λ f. says-hungry sheet program trace_of last (length before) at wrote out s p (to_end at (omega arith))) f
  run-says (suc n) at wrote out s h g p f = by (λ end wrote out s h g p f. run-says n end wrote out s h g p f) (leb (length block) at) refl f
    where
      cut : (l : Bool) → last ≡ l → at < length block → record_end block at ≡ None → SaysFrom at wrote out s (cut_run l (length before) at wrote out s)
      cut true e i c f = says-bad sheet program trace_of last (length before) at wrote out s s (step-cut at s i e c) f
      cut false e i c f = says-hungry sheet program trace_of last (length before) at wrote out s p (λ l. false_no e l)

      turn : ((end wrote : ℕ) (out : List ℕ) (s : Stores) → end ≤ length block → length block ≤ end + n → 0 < length before + end → SaysFrom end wrote out s (run_from n end wrote out s)) → at < length block → 8192 ≤ length out - wrote → (end : ℕ) → record_end block at ≡ Some end → (t : Turn) → turn_of sheet program s (part block (at + 2) end) ≡ t → SaysFrom at wrote out s (run_from (suc n) at wrote out s)
      turn ih i r end c (Turn.faulty after) q f =
          subst (SaysFrom at wrote out s) (run-faulty sheet program block last (length before) n at wrote out s i r end c after q) (λ f. says-bad sheet program trace_of last (length before) at wrote out s after (step-faulty at s i end after c q) f) f
      turn ih i r end c (Turn.line text after) q f =
          let w = whole_in block at end c in
          subst (SaysFrom at wrote out s) (run_line sheet program block last (length before) n at wrote out s i r end c after text q)
          (λ f.
          let k = length-written out wrote text in
          let b = grows sheet program block last (length before) n end (wrote + length text) (written out wrote text) after in
          step_line at s i end wrote out text after (run_from n end (wrote + length text) (written out wrote text) after) c q (omega arith)
          (ih end (wrote + length text) (written out wrote text) after (omega arith) (omega arith) (omega arith) (omega arith))) f

      room : ((end wrote : ℕ) (out : List ℕ) (s : Stores) → end ≤ length block → length block ≤ end + n → 0 < length before + end → SaysFrom end wrote out s (run_from n end wrote out s)) → at < length block → 8192 ≤ length out - wrote → (c : Option ℕ) → record_end block at ≡ c → SaysFrom at wrote out s (run_from (suc n) at wrote out s)
      room ih i r None c f = subst (SaysFrom at wrote out s) (run-cut sheet program block last (length before) n at wrote out s i r c) (cut last refl i c) f
      room ih i r (Some end) c f = turn ih i r end c (turn_of sheet program s (part block (at + 2) end)) refl f

      some : ((end wrote : ℕ) (out : List ℕ) (s : Stores) → end ≤ length block → length block ≤ end + n → 0 < length before + end → SaysFrom end wrote out s (run_from n end wrote out s)) → at < length block → (b : Bool) → ltb (length out - wrote) 8192 ≡ b → SaysFrom at wrote out s (run_from (suc n) at wrote out s)
      some ih i true e f = subst (SaysFrom at wrote out s) (run-full sheet program block last (length before) n at wrote out s i (ltb-true (length out - wrote) 8192 e)) (λ f. says-full sheet program trace_of last (length before) at wrote out s p) f
      some ih i false e f = room ih i (ltb-false (length out - wrote) 8192 e) (record_end block at) refl f

      by : ((end wrote : ℕ) (out : List ℕ) (s : Stores) → end ≤ length block → length block ≤ end + n → 0 < length before + end → SaysFrom end wrote out s (run_from n end wrote out s)) → (b : Bool) → leb (length block) at ≡ b → SaysFrom at wrote out s (run_from (suc n) at wrote out s)
      by ih true e f =
          let l = leb-true (length block) at e in
          subst (SaysFrom at wrote out s) (run-done sheet program block last (length before) (suc n) at wrote out s l) (λ f. says-hungry sheet program trace_of last (length before) at wrote out s p (to_end at l)) f
      by ih false e f = some ih (leb-false (length block) at e) (ltb (length out - wrote) 8192) refl f
