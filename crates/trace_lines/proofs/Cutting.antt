-- A run over a block, the version with it; and runs over all blocks of a trace.
use Rattle.std.proofs.Common.{◌≡◌, ℕ, ◌+◌, ◌<◌, ◌≤◌, List, [], ◌∷◌, ◌++◌, Bool, true, false, refl, sym, ap, subst, ◌∙◌, arith, length, take}
use Rattle.std.proofs.Math.Dec.{eqb}
use Rattle.std.proofs.lemmas.Bool.{lt-ltb, ne_eqb}
use Rattle.std.proofs.lemmas.List.{append-nil, append_assoc}
use Rattle.lines.specs.Lines.{bad_trace_line}
use Rattle.stack.specs.Stores.{Stores}
use Rattle.block_ends.specs.BlockEnds.{fed, bad_fed, begin_of}
use Rattle.block_ends.specs.declared.Halt.{Halt}
use Rattle.trace.specs.Run.{Ran, ran, bad_run, answers_from, feed_by, feed_of}
use Rattle.trace_lines.specs.Lines.{Told, told, following, text_of, bad_at, records_from, lines_of, lines_from}
use Rattle.trace_lines.specs.Cuttings.{left_by, Front, Cutting, said, ended, onwards, Split, Whole}
use Rattle.trace_lines.proofs.Fitting.{feed-fits}
use Rattle.trace_lines.proofs.Splitting.{text-after, Says, over_no, false_no, resumed, run-says}

-- ---- how a block begins

module _ (sheet program block : List ℕ) (last : Bool) (place : ℕ) (out : List ℕ) (s : Stores) where
  begin-later : 0 < place → answers_from sheet program block last place (length block) 0 0 out s ≡ feed_of sheet program block last place out s
  unfolding feed_of feed_by begin_of
  begin-later h = simp (lt-ltb _ _ h)

module _ (sheet program : List ℕ) (v : ℕ) (bytes : List ℕ) (last : Bool) (out : List ℕ) (s : Stores) where
  some_bytes : eqb (length (v ∷ bytes)) 0 ≡ false
  some_bytes = ne_eqb _ _ (λ e. omega arith)

  begin-first : eqb v 1 ≡ true → answers_from sheet program (v ∷ bytes) last 0 (length (v ∷ bytes)) 1 0 out s ≡ feed_of sheet program (v ∷ bytes) last 0 out s
  unfolding feed_of feed_by begin_of
  begin-first e = simp e

  begin-version : eqb v 1 ≡ false → bad_run 0 0 0 out s ≡ feed_of sheet program (v ∷ bytes) last 0 out s
  unfolding feed_of feed_by begin_of
  begin-version e = simp (some_bytes, e)

-- ---- a run over a block

module _ (sheet program : List ℕ) where
  -- what is said of records from a place on, where nothing stood in the buffer before
  records-front : (trace : List ℕ) (place at : ℕ) (out : List ℕ) (s : Stores) (last : Bool) (r : Ran) → (all : Told) → records_from sheet program trace (length trace) at s ≡ all
      → Says sheet program trace last place at 0 out s r → lines_from sheet program trace place s ≡ all → Front sheet program trace place s last r
  records-front trace place at out s last r all e says f = record { lines = says.lines; text = says.text; whole = says.whole (length trace) (omega arith) ∙ e ∙ sym f; all = says.all }

  bad-front : (trace : List ℕ) (last : Bool) (out : List ℕ) (s : Stores) → lines_of sheet program trace s ≡ bad_at sheet program trace 0 s → (bad_fed 0 0 0).wrote ≤ length out → Front sheet program trace 0 s last (bad_run 0 0 0 out s)
  unfolding text_of lines_from
  bad-front trace last out s e f = record {
    lines = bad_trace_line 0 ∷ [];
    text = text-after out 0 (bad_trace_line 0) f ∙ sym (append-nil (bad_trace_line 0));
    whole = sym e;
    all = λ l h. over_no h;
  }

  waits-front : (trace : List ℕ) (last : Bool) → last ≡ false → (out : List ℕ) (s : Stores) → Front sheet program trace 0 s last (ran (fed 0 0 Halt.Hungry) out s)
  unfolding text_of
  waits-front trace last h out s = record { lines = []; text = refl; whole = refl; all = λ l e. false_no h l }

  abbrev fronts : (trace : List ℕ) → (last : Bool) → (out : List ℕ) → Stores → Ran → Type 0
  fronts trace last out s r = r.fed.wrote ≤ length out → Front sheet program trace 0 s last r

  first-front : (block more : List ℕ) (last : Bool) → (last ≡ true → more ≡ []) → (out : List ℕ) (s : Stores) → (feed_of sheet program block last 0 out s).fed.wrote ≤ length out
      → Front sheet program (block ++ more) 0 s last (feed_of sheet program block last 0 out s)
  unfolding feed_of feed_by begin_of lines_from lines_of
  first-front [] more true ends out s f = bad-front more true out s (version more (ends refl)) f
    where
      version : (more : List ℕ) → more ≡ [] → lines_of sheet program more s ≡ bad_at sheet program more 0 s
      version [] e = refl
      version (x ∷ xs) e = let z : ◌≡◌ {A = ℕ} 0 1 = cc in absurd (omega arith)
  first-front [] more false ends out s f = waits-front more false refl out s
  first-front (v ∷ bytes) more last ends out s f = by (eqb v 1) refl f
    where
      told_first : eqb v 1 ≡ true → lines_from sheet program (v ∷ bytes ++ more) 0 s ≡ records_from sheet program (v ∷ bytes ++ more) (length (v ∷ bytes ++ more)) 1 s
      told_first e = simp e

      told_bad : eqb v 1 ≡ false → lines_of sheet program (v ∷ bytes ++ more) s ≡ bad_at sheet program (v ∷ bytes ++ more) 0 s
      told_bad e = simp e

      by : (b : Bool) → eqb v 1 ≡ b → fronts (v ∷ bytes ++ more) last out s (feed_of sheet program (v ∷ bytes) last 0 out s)
      by true e f = subst (fronts (v ∷ bytes ++ more) last out s) (begin-first sheet program v bytes last out s e)
          (λ f.
          records-front (v ∷ bytes ++ more) 0 1 out s last (answers_from sheet program (v ∷ bytes) last 0 (length (v ∷ bytes)) 1 0 out s) _ refl
          (run-says sheet program [] (v ∷ bytes) more last ends (length (v ∷ bytes)) 1 0 out s (omega arith) (omega arith) (omega arith) f) (told_first e)) f
      by false e f = subst (fronts (v ∷ bytes ++ more) last out s) (begin-version sheet program v bytes last out s e) (λ f. bad-front (v ∷ bytes ++ more) last out s (told_bad e) f) f

  later-front : (before block more : List ℕ) (last : Bool) → (last ≡ true → more ≡ []) → 0 < length before → (out : List ℕ) (s : Stores) → (feed_of sheet program block last (length before) out s).fed.wrote ≤ length out
      → Front sheet program (before ++ (block ++ more)) (length before) s last (feed_of sheet program block last (length before) out s)
  later-front before block more last ends h out s f =
      let trace = before ++ (block ++ more) in
      let zeroth : length before + 0 ≡ length before = omega arith in
      subst (λ (r : Ran). r.fed.wrote ≤ length out → Front sheet program (before ++ (block ++ more)) (length before) s last r) (begin-later sheet program block last (length before) out s h)
      (λ f.
      records-front trace (length before) (length before) out s last (answers_from sheet program block last (length before) (length block) 0 0 out s) _ refl
      (subst (λ (k : ℕ). Says sheet program (before ++ (block ++ more)) last (length before) k 0 out s (answers_from sheet program block last (length before) (length block) 0 0 out s)) zeroth
      (run-says sheet program before block more last ends (length block) 0 0 out s (omega arith) (omega arith) (omega arith) f))
      (resumed sheet program trace (length trace) (length before) s h (omega arith))) f

  block-front : (before block more : List ℕ) (last : Bool) → (last ≡ true → more ≡ []) → (out : List ℕ) (s : Stores) → (feed_of sheet program block last (length before) out s).fed.wrote ≤ length out
      → Front sheet program (before ++ (block ++ more)) (length before) s last (feed_of sheet program block last (length before) out s)
  block-front [] block more last ends out s f = first-front block more last ends out s f
  block-front (x ∷ before) block more last ends out s f = later-front (x ∷ before) block more last ends (omega arith) out s f

pub front : Split
front sheet program trace place s last r f =
    let b = f.stands.before in
    let whole = b ++ (f.block ++ f.stands.more) in
    let e : feed_of sheet program f.block last (length b) f.out s ≡ r = ap (λ (k : ℕ). feed_of sheet program f.block last k f.out s) f.stands.at ∙ f.is in
    let fits = feed-fits sheet program f.block last (length b) f.out s f.room in
    let first = block-front sheet program b f.block f.stands.more last f.stands.end f.out s fits in
    let ran = subst (λ (q : Ran). Front sheet program whole (length b) s last q) e first in
    let placed = subst (λ (k : ℕ). Front sheet program whole k s last r) f.stands.at ran in
    subst (λ (t : List ℕ). Front sheet program t place s last r) f.stands.is placed

-- ---- runs over all blocks

text-cat : (xs ys : List (List ℕ)) → text_of (xs ++ ys) ≡ text_of xs ++ text_of ys
unfolding text_of
text-cat [] ys = refl
text-cat (x ∷ xs) ys = ap (λ l. x ++ l) (text-cat xs ys) ∙ sym (append_assoc x (text_of xs) (text_of ys))

-- a text and stores are those of what is told
Tells : Told → List ℕ → Stores → Type 0
Tells t text after = (text ≡ text_of t.lines) × (after ≡ t.after)

module _ (sheet program trace : List ℕ) where
  -- nothing is left
  tells-all : (place : ℕ) (s : Stores) (last : Bool) (r : Ran) → Front sheet program trace place s last r → left_by sheet program trace r.fed.halt (place + r.fed.used) r.after ≡ told [] r.after
      → Tells (lines_from sheet program trace place s) (take r.fed.wrote r.out) r.after
  unfolding Tells
  tells-all place s last r f e =
      let whole : told (f.lines ++ []) r.after ≡ lines_from sheet program trace place s = ap (λ (t : Told). following f.lines t) (sym e) ∙ f.whole in
      (f.text ∙ ap text_of (sym (append-nil f.lines)) ∙ ap (λ (t : Told). text_of t.lines) whole, ap (λ (t : Told). t.after) whole)

  over-left : (h : Halt) (at : ℕ) (s : Stores) → h ≡ Halt.Over → left_by sheet program trace h at s ≡ told [] s
  over-left h at s e = rw e

  onwards-left : (h : Halt) (at : ℕ) (s : Stores) → (h ≡ Halt.Over → ⊥) → left_by sheet program trace h at s ≡ lines_from sheet program trace at s
  onwards-left Halt.Over at s e = absurd (e refl)
  onwards-left Halt.Hungry at s e = refl
  onwards-left Halt.Full at s e = refl

  cutting-tells : (place : ℕ) (s : Stores) (text : List ℕ) (after : Stores) → Cutting sheet program trace place s text after → Tells (lines_from sheet program trace place s) text after
  unfolding Tells
  cutting-tells place s text after (said {last = last} r f h) = tells-all place s last r (front sheet program trace place s last r f) (over-left r.fed.halt (place + r.fed.used) r.after h)
  cutting-tells place s text after (ended r f h) = let b = front sheet program trace place s true r f in tells-all place s true r b (b.all refl h)
  cutting-tells place s text after (onwards {last = last} {text = more} r f h c) =
      let b = front sheet program trace place s last r f in
      let (t, a) = cutting-tells (place + r.fed.used) r.after more after c in
      let rest = lines_from sheet program trace (place + r.fed.used) r.after in
      let whole : following b.lines rest ≡ lines_from sheet program trace place s = ap (λ (t : Told). following b.lines t) (sym (onwards-left r.fed.halt (place + r.fed.used) r.after h)) ∙ b.whole in (
        ap (λ l. l ++ more) b.text ∙ ap (λ l. text_of b.lines ++ l) t ∙ sym (text-cat b.lines rest.lines) ∙ ap (λ (t : Told). text_of t.lines) whole,
        a ∙ ap (λ (t : Told). t.after) whole,
      )

  from_start : (s : Stores) → lines_from sheet program trace 0 s ≡ lines_of sheet program trace s
  unfolding lines_from
  from_start s = refl

pub whole : Whole
unfolding Tells
whole sheet program trace s after text c = subst (λ (t : Told). Tells t text after) (from_start sheet program trace s) (cutting-tells sheet program trace 0 s text after c)
