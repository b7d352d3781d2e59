-- What a run writes has room in its buffer, where there was room for a line at the start.
use Rattle.std.proofs.Common.{◌≡◌, ℕ, zero, suc, ◌+◌, ◌-◌, ◌≤◌, List, Bool, true, false, cond, Option, None, Some, refl, arith, length}
use Rattle.std.proofs.Math.Dec.{ltb, leb}
use Rattle.std.proofs.lemmas.Bool.{ltb-false}
use Rattle.cells.specs.Numbers.{part}
use Rattle.cells.specs.Stretches.{written, length-written}
use Rattle.records.specs.Records.{record_end}
use Rattle.stack.specs.Stores.{Stores}
use Rattle.answers.specs.Answers.{turn_of}
use Rattle.replies.specs.Replies.{Turn, saying}
use Rattle.block_ends.specs.BlockEnds.{fed, cut_fed, begin_of, no_version}
use Rattle.block_ends.specs.declared.Halt.{Halt}
use Rattle.trace.specs.Run.{ran, bad_run, cut_run, on_cut, on_said, answers_from, feed_by, feed_of}
use Rattle.trace_lines.proofs.Rooms.{bad-short, ShortTurn, turn-short}

cut_fits : (last : Bool) (place at wrote : ℕ) (out : List ℕ) → wrote + 8192 ≤ length out → (cut_fed last place at wrote).wrote ≤ length out
cut_fits true place at wrote out h = let b = bad-short (place + at) in omega arith
cut_fits false place at wrote out h = omega arith

module _ (sheet program block : List ℕ) (last : Bool) (place : ℕ) where
  answers-fit : (n at wrote : ℕ) (out : List ℕ) (s : Stores) → wrote ≤ length out → (answers_from sheet program block last place n at wrote out s).fed.wrote ≤ length out
  unfolding answers_from saying on_said on_cut
  answers-fit zero at wrote out s h = h
  answers-fit (suc n) at wrote out s h = by (λ end next out' s' g. answers-fit n end next out' s' g) (leb (length block) at) (ltb (length out - wrote) 8192) refl (record_end block at)
    where
      turn : ((end next : ℕ) (out' : List ℕ) (s' : Stores) → next ≤ length out' → (answers_from sheet program block last place n end next out' s').fed.wrote ≤ length out')
          → wrote + 8192 ≤ length out → (end : ℕ) (t : Turn) → ShortTurn t
          → (on_said (saying t out wrote) (λ out' s'. bad_run place at wrote out' s') (λ next out' s'. answers_from sheet program block last place n end next out' s')).fed.wrote ≤ length out
      turn ih g end (Turn.line text after) k =
          let l = length-written out wrote text in
          let i = ih end (wrote + length text) (written out wrote text) after (omega arith) in
          omega arith
      turn ih g end (Turn.faulty after) k = let b = bad-short (place + at) in omega arith

      by : ((end next : ℕ) (out' : List ℕ) (s' : Stores) → next ≤ length out' → (answers_from sheet program block last place n end next out' s').fed.wrote ≤ length out')
          → (b c : Bool) → ltb (length out - wrote) 8192 ≡ c → (r : Option ℕ) → (cond b (ran (fed at wrote Halt.Hungry) out s)
          (cond c (ran (fed at wrote Halt.Full) out s)
          (on_cut r
          (cut_run last place at wrote out s)
          (λ end. on_said (saying (turn_of sheet program s (part block (at + 2) end)) out wrote)
          (λ out' s'. bad_run place at wrote out' s')
          (λ next out' s'. answers_from sheet program block last place n end next out' s'))))).fed.wrote ≤ length out
      by ih true c e r = h
      by ih false true e r = h
      by ih false false e None = let l = ltb-false (length out - wrote) 8192 e in cut_fits last place at wrote out (omega arith)
      by ih false false e (Some end) =
          let l = ltb-false (length out - wrote) 8192 e in
          turn ih (omega arith) end (turn_of sheet program s (part block (at + 2) end)) (turn-short sheet program s (part block (at + 2) end))

  pub feed-fits : (out : List ℕ) (s : Stores) → 8192 ≤ length out → (feed_of sheet program block last place out s).fed.wrote ≤ length out
  unfolding feed_of feed_by
  feed-fits out s h = by (begin_of block place)
    where
      by : (b : Option ℕ) → (feed_by sheet program block last place b out s).fed.wrote ≤ length out
      by (Some first) = answers-fit (length block) first 0 out s (omega arith)
      by None = cut_fits (no_version block last) 0 0 0 out (omega arith)
