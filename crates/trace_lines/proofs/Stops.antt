-- Where a run stops, and why.
use Rattle.std.proofs.Common.{◌≡◌, ℕ, zero, suc, ◌+◌, ◌-◌, ◌≤◌, List, [], ◌∷◌, Bool, true, false, cond, Option, None, Some, refl, subst, arith, length, get_or}
use Rattle.std.proofs.Math.Dec.{ltb, leb, eqb}
use Rattle.std.proofs.lemmas.Bool.{ltb-true, leb-true, eqb-true}
use Rattle.cells.specs.Numbers.{part, be16}
use Rattle.cells.specs.Stretches.{written, length-written}
use Rattle.records.specs.Records.{record_end}
use Rattle.stack.specs.Stores.{Stores}
use Rattle.answers.specs.Answers.{turn_of}
use Rattle.replies.specs.Replies.{Turn, saying}
use Rattle.block_ends.specs.BlockEnds.{fed, cut_fed, begin_of}
use Rattle.block_ends.specs.declared.Halt.{Halt}
use Rattle.trace.specs.Run.{ran, bad_run, cut_run, on_cut, on_said, answers_from, feed_by, feed_of}
use Rattle.trace_lines.specs.Cuttings.{Stops, Stopping}
use Rattle.trace_lines.proofs.Records.{whole_in, short_is}
use Rattle.trace_lines.proofs.Splitting.{full_no, over_no}

hungry_no : {A : Type 0} → Halt.Hungry ≡ Halt.Full → A
hungry_no e = absurd (let z : ◌≡◌ {A = ℕ} 0 1 = cc in let q : ⊥ = omega arith in q)

no_full : {A : Type 0} → Halt.Over ≡ Halt.Full → A
no_full e = absurd (let z : ◌≡◌ {A = ℕ} 0 1 = cc in let q : ⊥ = omega arith in q)

module _ (block : List ℕ) (room : ℕ) where
  stops_over : (at wrote : ℕ) → at ≤ length block → Stops block room (fed at wrote Halt.Over)
  stops_over at wrote h = record { inside = h; hungry = λ e. over_no e; full = λ e. no_full e }

  stops-hungry : (at wrote : ℕ) → at ≤ length block → record_end block at ≡ None → Stops block room (fed at wrote Halt.Hungry)
  stops-hungry at wrote h c = record { inside = h; hungry = λ e. c; full = λ e. hungry_no e }

  stops_end : (at wrote : ℕ) → at ≤ length block → length block ≤ at → Stops block room (fed at wrote Halt.Hungry)
  stops_end at wrote h g = stops-hungry at wrote h (short_is block at (be16 block at) refl (omega arith))

  stops_cut : (last : Bool) (place at wrote : ℕ) → at ≤ length block → record_end block at ≡ None → Stops block room (cut_fed last place at wrote)
  stops_cut true place at wrote h c = stops_over at _ h
  stops_cut false place at wrote h c = stops-hungry at wrote h c

module _ (sheet program block : List ℕ) (last : Bool) (place : ℕ) where
  records_stop : (n at wrote : ℕ) (out : List ℕ) (s : Stores) → at ≤ length block → length block ≤ at + n → Stops block (length out) (answers_from sheet program block last place n at wrote out s).fed
  unfolding answers_from saying on_said on_cut
  records_stop zero at wrote out s h g = stops_end block (length out) at wrote h (omega arith)
  records_stop (suc n) at wrote out s h g = by (λ end next out' s' h g. records_stop n end next out' s' h g) (leb (length block) at) refl (ltb (length out - wrote) 8192) refl (record_end block at) refl
    where
      turn : ((end next : ℕ) (out' : List ℕ) (s' : Stores) → end ≤ length block → length block ≤ end + n → Stops block (length out') (answers_from sheet program block last place n end next out' s').fed)
          → (end : ℕ) → at + 2 ≤ end → end ≤ length block → (t : Turn)
          → Stops block (length out) (on_said (saying t out wrote) (λ out' s'. bad_run place at wrote out' s') (λ next out' s'. answers_from sheet program block last place n end next out' s')).fed
      turn ih end p q (Turn.line text after) =
          let f = (answers_from sheet program block last place n end (wrote + length text) (written out wrote text) after).fed in
          subst (λ (k : ℕ). Stops block k f) (length-written out wrote text) (ih end (wrote + length text) (written out wrote text) after q (omega arith))
      turn ih end p q (Turn.faulty after) = stops_over block (length out) at _ h

      by : ((end next : ℕ) (out' : List ℕ) (s' : Stores) → end ≤ length block → length block ≤ end + n → Stops block (length out') (answers_from sheet program block last place n end next out' s').fed)
          → (b : Bool) → leb (length block) at ≡ b → (c : Bool) → ltb (length out - wrote) 8192 ≡ c → (r : Option ℕ) → record_end block at ≡ r → Stops block (length out) (cond b (ran (fed at wrote Halt.Hungry) out s)
          (cond c (ran (fed at wrote Halt.Full) out s)
          (on_cut r
          (cut_run last place at wrote out s)
          (λ end. on_said (saying (turn_of sheet program s (part block (at + 2) end)) out wrote)
          (λ out' s'. bad_run place at wrote out' s')
          (λ next out' s'. answers_from sheet program block last place n end next out' s'))))).fed
      by ih true d c k r e = stops_end block (length out) at wrote h (leb-true (length block) at d)
      by ih false d true k r e = let l = ltb-true (length out - wrote) 8192 k in record { inside = h; hungry = λ e. full_no e; full = λ e. omega arith }
      by ih false d false k None e = stops_cut block (length out) last place at wrote h e
      by ih false d false k (Some end) e = let w = whole_in block at end e in turn ih end (omega arith) w.1 (turn_of sheet program s (part block (at + 2) end))

-- with the version
pub stopping : Stopping
unfolding feed_of begin_of feed_by
stopping sheet program block last place out s = by (ltb 0 place) (eqb (get_or block 0 0) 1) refl (eqb (length block) 0) refl
  where
    none : (c : Bool) → eqb (length block) 0 ≡ c → Stops block (length out) (cut_fed (cond c last true) 0 0 0)
    none true e =
        let z = eqb-true (length block) 0 e in
        stops_cut block (length out) last 0 0 0 (omega arith) (short_is block 0 (be16 block 0) refl (omega arith))
    none false e = stops_over block (length out) 0 _ (omega arith)

    some : (block : List ℕ) → get_or block 0 0 ≡ 1 → 1 ≤ length block
    some [] e = absurd (let q : ⊥ = omega arith in q)
    some (x ∷ xs) e = omega arith

    by : (a b : Bool) → eqb (get_or block 0 0) 1 ≡ b → (c : Bool) → eqb (length block) 0 ≡ c
        → Stops block (length out) (feed_by sheet program block last place (cond a (Some 0) (cond b (Some 1) None)) out s).fed
    by true b e c f = records_stop sheet program block last place (length block) 0 0 out s (omega arith) (omega arith)
    by false true e c f = let l = some block (eqb-true (get_or block 0 0) 1 e) in records_stop sheet program block last place (length block) 1 0 out s l (omega arith)
    by false false e c f = none (eqb (length block) 0) refl
