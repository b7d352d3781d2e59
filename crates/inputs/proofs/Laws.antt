-- Each way out of answering a whole input.
use mathlib.Core.Bool.{true, false}
use mathlib.Core.List.{List}
use mathlib.Core.Path.{◌≡◌}
use Prim.Native.Nat.{ℕ}
use lib.ListN.{length}
use Rattle.cells.specs.Numbers.{part}
use Rattle.text.specs.Text.{Wrote}
use Rattle.lines.specs.Lines.{refused_line, sheet_line}
use Rattle.making.specs.Making.{Made, fresh, fresh_call}
use Rattle.records.specs.Sheets.{sheet_end}
use Rattle.stack.specs.Lent.{contents}
use Rattle.stack.specs.declared.machine.Machine.{Machine}
use Rattle.stack.specs.Stores.{Stores, stores}
use Rattle.trace.specs.Run.{ran, feed_of}
use Rattle.block_ends.specs.declared.Fed.{Fed}
use Rattle.inputs.specs.Inputs.{whole_run, whole_by, whole_of}

module _ (input : List ℕ) (n : ℕ) (e : n ≡ sheet_end input) (program out : List ℕ) (s : Stores) (made : Made) (program₁ rows₁ : List ℕ) (f : fresh made program₁ rows₁ ≡ fresh_call (part input 0 n) false program s) where
  pub whole-made : made ≡ Made.Ready → (r : Fed) (o : List ℕ) (s₁ : Stores) → ran r o s₁ ≡ feed_of (part input 0 n) program₁ (part input n (length input)) true 0 out (stores rows₁ s.names s.ids s.nodes)
      → whole_run r.wrote program₁ o s₁ ≡ whole_of input program out s
  unfolding whole_of whole_by
  whole-made m r o s₁ q = rw (← e, ← f, m, ← q)

  -- where the run was given the machine as one value, the stores after it are those that the machine lent
  pub whole-machine : made ≡ Made.Ready → (r : Fed) (o : List ℕ) (m : Machine) (rows names ids nodes : List ℕ) → rows ≡ m.rows.now → names ≡ m.names.now → ids ≡ m.ids.now → nodes ≡ m.nodes.now
      → ran r o (contents m) ≡ feed_of (part input 0 n) program₁ (part input n (length input)) true 0 out (stores rows₁ s.names s.ids s.nodes)
      → whole_run r.wrote program₁ o (stores rows names ids nodes) ≡ whole_of input program out s
  whole-machine k r o m rows names ids nodes e₁ e₂ e₃ e₄ q = rw (e₁, e₂, e₃, e₄) (whole-made k r o (contents m) q)

  pub whole-sheet : (k place : ℕ) → made ≡ Made.Sheet k place → (r : ℕ) (o : List ℕ) → Wrote out 0 (sheet_line k place) r o → whole_run r program₁ o (stores rows₁ s.names s.ids s.nodes) ≡ whole_of input program out s
  unfolding whole_of whole_by
  whole-sheet k place m r o w = rw (← e, ← f, m, w.0, w.1)

  pub whole-refused : (k : ℕ) → made ≡ Made.Refused k → (r : ℕ) (o : List ℕ) → Wrote out 0 (refused_line k) r o → whole_run r program₁ o (stores rows₁ s.names s.ids s.nodes) ≡ whole_of input program out s
  unfolding whole_of whole_by
  whole-refused k m r o w = rw (← e, ← f, m, w.0, w.1)
