-- The lines of small traces, computed from their definition.
use Rattle.std.proofs.Common.{◌≡◌, refl, arith, List, [], ◌∷◌, ◌++◌, true, false, ℕ, ◌+◌, ◌-◌, ◌≤◌, length, take}
use Rattle.std.proofs.lemmas.Bool.{le-ltb}
use Rattle.cells.specs.Stretches.{written}
use Rattle.block_ends.specs.BlockEnds.{fed, begin_of}
use Rattle.block_ends.specs.declared.Halt.{Halt}
use Rattle.trace.specs.Run.{ran, bad_run, on_cut, answers_from, feed_by, feed_of}
use Rattle.trace_lines.specs.Cuttings.{Feeds, Cutting, said, onwards}
use Rattle.lines.specs.Lines.{bad_trace_line}
use Rattle.stack.specs.Stores.{Stores, stores}
use Rattle.records.specs.Records.{record_end, record_of}
use Rattle.cells.specs.Numbers.{be16}
use Rattle.ends.specs.Ends.{end_call}
use Rattle.reply_lines.specs.ReplyLines.{popped_line}
use Rattle.replies.specs.Replies.{end_turn, popped_room}
use Rattle.answers.specs.Answers.{turn_by, turn_of}
use Rattle.trace_lines.proofs.Splitting.{false_no}
use Rattle.trace_lines.specs.Lines.{told, on_record, on_turn, records_from, lines_of}

module _ (sheet program : List ℕ) (s : Stores) where
  -- no version
  nothing : lines_of sheet program [] s ≡ told (bad_trace_line 0 ∷ []) s
  unfolding lines_of
  nothing = refl

  -- another version
  version-2 : lines_of sheet program (2 ∷ 0 ∷ 2 ∷ 3 ∷ 112 ∷ []) s ≡ told (bad_trace_line 0 ∷ []) s
  unfolding lines_of
  version-2 = refl

  -- no record
  no_record : lines_of sheet program (1 ∷ []) s ≡ told [] s
  unfolding lines_of records_from
  no_record = refl

  -- half a length
  half-length : lines_of sheet program (1 ∷ 0 ∷ []) s ≡ told (bad_trace_line 1 ∷ []) s
  unfolding lines_of records_from record_end on_record be16
  half-length = refl

  -- a body with no kind
  no-kind : lines_of sheet program (1 ∷ 0 ∷ 0 ∷ []) s ≡ told (bad_trace_line 1 ∷ []) s
  unfolding lines_of records_from record_end on_record be16 turn_of turn_by record_of on_turn
  no-kind = refl

  -- the end tag `p`, then a record that is cut
  end-then-cut : lines_of sheet program (1 ∷ 0 ∷ 2 ∷ 3 ∷ 112 ∷ 0 ∷ 9 ∷ 3 ∷ []) s
      ≡ told (popped_line (end_call sheet program s (112 ∷ []) popped_room).answer ∷ bad_trace_line 5 ∷ []) (stores (end_call sheet program s (112 ∷ []) popped_room).rows s.names s.ids s.nodes)
  unfolding lines_of records_from record_end on_record be16 turn_of turn_by record_of on_turn end_turn
  end-then-cut = refl

  -- Another version, in one block.
  one_block : (out : List ℕ) → 8192 ≤ length out → Cutting sheet program (2 ∷ []) 0 s (take (0 + length (bad_trace_line 0)) (written out 0 (bad_trace_line 0))) s
  unfolding feed_of feed_by begin_of
  one_block out h = said {last = true} (bad_run 0 0 0 out s) (record { block = 2 ∷ []; out = out; stands = record { before = []; more = []; is = refl; at = refl; end = λ e. refl }; is = refl; room = h }) refl

  -- The version in one block, and in the next half a length.
  two-blocks : (out out' : List ℕ) → 8192 ≤ length out → 8192 ≤ length out' → Cutting sheet program (1 ∷ 0 ∷ []) 0 s (take 0 out ++ take (0 + length (bad_trace_line 1)) (written out' 0 (bad_trace_line 1))) s
  unfolding feed_of feed_by begin_of answers_from record_end be16 on_cut
  two-blocks out out' h g =
      onwards {last = false} (ran (fed 1 0 Halt.Hungry) out s) first hungry
      (said {last = true} (bad_run 1 0 0 out' s) (record { block = 0 ∷ []; out = out'; stands = record { before = 1 ∷ []; more = []; is = refl; at = refl; end = λ e. refl }; is = room; room = g }) refl)
    where
      first : Feeds sheet program (1 ∷ 0 ∷ []) 0 s false (ran (fed 1 0 Halt.Hungry) out s)
      first = record { block = 1 ∷ []; out = out; stands = record { before = []; more = 0 ∷ []; is = refl; at = refl; end = λ e. false_no refl e }; is = refl; room = h }

      hungry : Halt.Hungry ≡ Halt.Over → ⊥
      hungry e = let z : ◌≡◌ {A = ℕ} 0 1 = cc in omega arith

      room : feed_of sheet program (0 ∷ []) true 1 out' s ≡ bad_run 1 0 0 out' s
      room = simp (le-ltb (length out' - 0) 8192 (omega arith))
