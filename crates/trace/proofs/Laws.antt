-- Each way out of a run over a block.
use mathlib.Core.Bool.{Bool, true, false, cond}
use mathlib.Core.List.{List}
use mathlib.Core.Path.{◌≡◌, refl, sym, ◌∙◌}
use Prim.Native.Nat.{ℕ, zero, suc, ◌+◌, ◌-◌, ◌≤◌, ◌<◌}
use native.Mathlib.Numerals.{sub-one}
use native.Mathlib.Omega.{arith}
use borrow.Author.Tests.{lt-ltb, le-ltb, ltb-false, lt-leb, le-leb}
use lib.Dec.{ltb}
use lib.ListN.{length}
use Rattle.std.specs.Prelude.{Option, None, Some}
use Rattle.cells.specs.Numbers.{part, be16}
use Rattle.records.specs.Records.{record_end}
use Rattle.stack.specs.Lent.{SameLoans}
use Rattle.stack.specs.declared.machine.Machine.{Machine}
use Rattle.stack.specs.Stores.{Stores}
use Rattle.answers.specs.Answers.{turn_of}
use Rattle.replies.specs.Replies.{answered, saying}
use Rattle.block_ends.specs.BlockEnds.{fed, bad_fed, bad_out, cut_fed, cut_out}
use Rattle.trace.specs.Run.{ran, on_cut, on_said, answers_from}
use Rattle.block_ends.specs.declared.Fed.{Fed}
use Rattle.block_ends.specs.declared.Halt.{Halt}

-- a whole record lies in its block
pub end-bounds : (block : List ℕ) (at : ℕ) (cut : Option ℕ) (end : ℕ) → cut ≡ record_end block at → cut ≡ Some end → (at + 2 ≤ end) × (end ≤ length block)
unfolding record_end
end-bounds block at cut end e f = by (ltb (length block) (at + 2 + be16 block at)) refl (sym f ∙ e)
  where
    by : (b : Bool) → ltb (length block) (at + 2 + be16 block at) ≡ b → Some end ≡ cond b None (Some (at + 2 + be16 block at)) → (at + 2 ≤ end) × (end ≤ length block)
    by true t q = let z : ◌≡◌ {A = ℕ} 0 1 = cc in absurd (omega arith)
    by false t q =
        let l = ltb-false (length block) (at + 2 + be16 block at) t in
        let z : end ≡ at + 2 + be16 block at = cc in
        (omega arith, omega arith)

pub lent-on : (a b c : Machine) → SameLoans a b → SameLoans b c → SameLoans a c
lent-on a b c l m = record { sheet = m.sheet ∙ l.sheet; program = m.program ∙ l.program; rows = m.rows ∙ l.rows; names = m.names ∙ l.names; ids = m.ids ∙ l.ids; nodes = m.nodes ∙ l.nodes }

-- a record is answered by the sheet and the program that were lent first
pub turned : (first machine : Machine) → SameLoans first machine → (s s₁ : Stores) (body out o₁ : List ℕ) (said : Option ℕ) (wrote : ℕ) → answered said o₁ s₁ ≡ saying (turn_of machine.sheet.now machine.program.now s body) out wrote
    → answered said o₁ s₁ ≡ saying (turn_of first.sheet.now first.program.now s body) out wrote
turned first machine l s s₁ body out o₁ said wrote t = rw (← l.sheet, ← l.program) t

module _ (sheet program block : List ℕ) (last : Bool) (place : ℕ) where
  pub run-done : (n at wrote : ℕ) (out : List ℕ) (s : Stores) → length block ≤ at → ran (fed at wrote Halt.Hungry) out s ≡ answers_from sheet program block last place n at wrote out s
  unfolding answers_from
  run-done zero at wrote out s h = refl
  run-done (suc n) at wrote out s h = simp (le-leb _ _ h)

  pub run-full : (n at wrote : ℕ) (out : List ℕ) (s : Stores) → 0 < n → at < length block → length out - wrote < 8192 → ran (fed at wrote Halt.Full) out s ≡ answers_from sheet program block last place n at wrote out s
  unfolding answers_from
  run-full zero at wrote out s p h g = absurd (omega arith)
  run-full (suc n) at wrote out s p h g = simp (lt-leb _ _ h, lt-ltb _ _ g)

  pub run-cut : (n at wrote : ℕ) (out : List ℕ) (s : Stores) → 0 < n → at < length block → 8192 ≤ length out - wrote → (cut : Option ℕ) → cut ≡ record_end block at → cut ≡ None
      → (r : Fed) (o : List ℕ) → r ≡ cut_fed last place at wrote → o ≡ cut_out last place at wrote out → ran r o s ≡ answers_from sheet program block last place n at wrote out s
  unfolding answers_from on_cut
  run-cut zero at wrote out s p h g cut e f r o a b = absurd (omega arith)
  run-cut (suc n) at wrote out s p h g cut e f r o a b = simp (lt-leb _ _ h, le-ltb _ _ g, ← e, f) (λ i. ran (a i) (b i) s)

  pub run-faulty : (n at wrote : ℕ) (out : List ℕ) (s : Stores) → 0 < n → at < length block → 8192 ≤ length out - wrote → (cut : Option ℕ) (end : ℕ) → cut ≡ record_end block at → cut ≡ Some end
      → (body : List ℕ) → body ≡ part block (at + 2) end → (said : Option ℕ) (o₁ : List ℕ) (s₁ : Stores) → answered said o₁ s₁ ≡ saying (turn_of sheet program s body) out wrote → said ≡ None
      → (r : Fed) (o : List ℕ) → r ≡ bad_fed place at wrote → o ≡ bad_out place at wrote o₁ → ran r o s₁ ≡ answers_from sheet program block last place n at wrote out s
  unfolding answers_from on_cut on_said
  run-faulty zero at wrote out s p h g cut end e f body q said o₁ s₁ t u r o a b = absurd (omega arith)
  run-faulty (suc n) at wrote out s p h g cut end e f body q said o₁ s₁ t u r o a b = simp (lt-leb _ _ h, le-ltb _ _ g, ← e, f, ← q, ← t, u) (λ i. ran (a i) (b i) s₁)

  pub run_more : (n at wrote : ℕ) (out : List ℕ) (s : Stores) → 0 < n → at < length block → 8192 ≤ length out - wrote → (cut : Option ℕ) (end : ℕ) → cut ≡ record_end block at → cut ≡ Some end
      → (body : List ℕ) → body ≡ part block (at + 2) end → (said : Option ℕ) (next : ℕ) (o₁ : List ℕ) (s₁ : Stores) → answered said o₁ s₁ ≡ saying (turn_of sheet program s body) out wrote → said ≡ Some next
      → answers_from sheet program block last place n at wrote out s ≡ answers_from sheet program block last place (n - 1) end next o₁ s₁
  unfolding answers_from on_cut on_said
  run_more zero at wrote out s p h g cut end e f body q said next o₁ s₁ t u = absurd (omega arith)
  run_more (suc n) at wrote out s p h g cut end e f body q said next o₁ s₁ t u = rw sub-one (simp (lt-leb _ _ h, le-ltb _ _ g, ← e, f, ← q, ← t, u))

-- What is left to answer gives what the whole gives.
pub record Left (sheet program block : List ℕ) (last : Bool) (place first : ℕ) (out₀ : List ℕ) (s₀ : Stores) (at wrote : ℕ) (out : List ℕ) (s : Stores) : Type 0 where
  pub n : ℕ
  pub enough : length block ≤ at + n
  pub same : answers_from sheet program block last place (length block) first 0 out₀ s₀ ≡ answers_from sheet program block last place n at wrote out s

pub left-start : (sheet program block : List ℕ) (last : Bool) (place first : ℕ) (out₀ : List ℕ) (s₀ : Stores) → Left sheet program block last place first out₀ s₀ first 0 out₀ s₀
left-start sheet program block last place first out₀ s₀ = record { n = length block; enough = omega arith; same = refl }

module _ (sheet program block : List ℕ) (last : Bool) (place first : ℕ) (out₀ : List ℕ) (s₀ : Stores) (at wrote : ℕ) (out : List ℕ) (s : Stores) (l : Left sheet program block last place first out₀ s₀ at wrote out s) where
  some_left : at < length block → 0 < l.n
  some_left h = let e = l.enough in omega arith

  pub left-done : length block ≤ at → ran (fed at wrote Halt.Hungry) out s ≡ answers_from sheet program block last place (length block) first 0 out₀ s₀
  left-done h = run-done sheet program block last place l.n at wrote out s h ∙ sym l.same

  pub left-full : at < length block → length out - wrote < 8192 → ran (fed at wrote Halt.Full) out s ≡ answers_from sheet program block last place (length block) first 0 out₀ s₀
  left-full h g = run-full sheet program block last place l.n at wrote out s (some_left h) h g ∙ sym l.same

  module _ (h : at < length block) (g : 8192 ≤ length out - wrote) (cut : Option ℕ) (e : cut ≡ record_end block at) where
    pub left_cut : cut ≡ None → (r : Fed) (o : List ℕ) → r ≡ cut_fed last place at wrote → o ≡ cut_out last place at wrote out
        → ran r o s ≡ answers_from sheet program block last place (length block) first 0 out₀ s₀
    left_cut f r o a b = run-cut sheet program block last place l.n at wrote out s (some_left h) h g cut e f r o a b ∙ sym l.same

    module _ (end : ℕ) (f : cut ≡ Some end) (body : List ℕ) (q : body ≡ part block (at + 2) end) (said : Option ℕ) (o₁ : List ℕ) (s₁ : Stores) (t : answered said o₁ s₁ ≡ saying (turn_of sheet program s body) out wrote) where
      pub left-faulty : said ≡ None → (r : Fed) (o : List ℕ) → r ≡ bad_fed place at wrote → o ≡ bad_out place at wrote o₁
          → ran r o s₁ ≡ answers_from sheet program block last place (length block) first 0 out₀ s₀
      left-faulty u r o a b = run-faulty sheet program block last place l.n at wrote out s (some_left h) h g cut end e f body q said o₁ s₁ t u r o a b ∙ sym l.same

      pub left-more : (next : ℕ) → said ≡ Some next → Left sheet program block last place first out₀ s₀ end next o₁ s₁
      left-more next u =
          let i = l.enough in
          let b = end-bounds block at cut end e f in
          record {
            n = l.n - 1;
            enough = omega arith;
            same = l.same ∙ run_more sheet program block last place l.n at wrote out s (some_left h) h g cut end e f body q said next o₁ s₁ t u;
          }
