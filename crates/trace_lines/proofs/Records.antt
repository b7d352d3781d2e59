-- The lines of a trace, one step at a time; and a record of a block is a record of the trace that the block lies in.
use Rattle.std.proofs.Common.{◌≡◌, ℕ, zero, suc, ◌+◌, ◌-◌, ◌<◌, ◌≤◌, List, [], ◌∷◌, ◌++◌, Bool, true, false, cond, Option, None, Some, refl, sym, ap, ◌∙◌, arith, length, drop, get_or}
use Rattle.std.proofs.Math.Dec.{ltb, leb}
use Rattle.std.proofs.Math.Seq.{drop-append-add}
use Rattle.std.proofs.lemmas.Bool.{le-leb, lt-leb, leb-false, leb-true, ltb-true, ltb-false, lt-ltb, le-ltb}
use Rattle.std.proofs.lemmas.List.{append-nil, length-append, length-drop, get_or-append-add, get_or_append_left, drop-append-le, take-append-le}
use Rattle.cells.specs.Numbers.{part, be16}
use Rattle.records.specs.Records.{record_end}
use Rattle.stack.specs.Stores.{Stores}
use Rattle.answers.specs.Answers.{turn_of}
use Rattle.replies.specs.Replies.{Turn}
use Rattle.trace_lines.specs.Lines.{Told, told, following, on_record, on_turn, bad_at, records_from}

-- ---- one step

module _ (sheet program trace : List ℕ) where
  pub rec-done : (n at : ℕ) (s : Stores) → length trace ≤ at → records_from sheet program trace n at s ≡ told [] s
  unfolding records_from
  rec-done zero at s h = refl
  rec-done (suc n) at s h = simp (le-leb _ _ h)

  pub rec-cut : (n at : ℕ) (s : Stores) → at < length trace → record_end trace at ≡ None → records_from sheet program trace (suc n) at s ≡ bad_at sheet program trace at s
  unfolding records_from on_record
  rec-cut n at s h e = simp (lt-leb _ _ h, e)

  pub rec-turn : (n at : ℕ) (s : Stores) (end : ℕ) → at < length trace → record_end trace at ≡ Some end
      → records_from sheet program trace (suc n) at s ≡ on_turn (turn_of sheet program s (part trace (at + 2) end)) (bad_at sheet program trace at) (λ after. records_from sheet program trace n end after)
  unfolding records_from on_record
  rec-turn n at s end h e = simp (lt-leb _ _ h, e)

pub turn-alike : (t : Turn) (bad go go' : Stores → Told) → ((s : Stores) → go s ≡ go' s) → on_turn t bad go ≡ on_turn t bad go'
unfolding on_turn
turn-alike (Turn.line text after) bad go go' h = ap (λ (x : Told). following (text ∷ []) x) (h after)
turn-alike (Turn.faulty after) bad go go' h = refl

-- A whole record ends in its bytes, two further at least.
pub whole_in : (block : List ℕ) (at end : ℕ) → record_end block at ≡ Some end → (end ≡ at + 2 + be16 block at) × (end ≤ length block)
unfolding record_end
whole_in block at end e = by (ltb (length block) (at + 2 + be16 block at)) refl e
  where
    by : (b : Bool) → ltb (length block) (at + 2 + be16 block at) ≡ b → cond b None (Some (at + 2 + be16 block at)) ≡ Some end → (end ≡ at + 2 + be16 block at) × (end ≤ length block)
    by true t q = let z : ◌≡◌ {A = ℕ} 0 1 = cc in absurd (omega arith)
    by false t q =
        let l = ltb-false (length block) (at + 2 + be16 block at) t in
        let z : end ≡ at + 2 + be16 block at = cc in
        (z, omega arith)

pub short-past : (block : List ℕ) (at : ℕ) → record_end block at ≡ None → length block < at + 2 + be16 block at
unfolding record_end
short-past block at e = by (ltb (length block) (at + 2 + be16 block at)) refl e
  where
    by : (b : Bool) → ltb (length block) (at + 2 + be16 block at) ≡ b → cond b None (Some (at + 2 + be16 block at)) ≡ None → length block < at + 2 + be16 block at
    by true t q = ltb-true (length block) (at + 2 + be16 block at) t
    by false t q = let z : ◌≡◌ {A = ℕ} 0 1 = cc in absurd (omega arith)

module _ (block : List ℕ) (at : ℕ) where
  pub whole-is : (n : ℕ) → be16 block at ≡ n → at + 2 + n ≤ length block → record_end block at ≡ Some (at + 2 + n)
  unfolding record_end
  whole-is n e h = simp (e, le-ltb _ _ h)

  pub short_is : (n : ℕ) → be16 block at ≡ n → length block < at + 2 + n → record_end block at ≡ None
  unfolding record_end
  short_is n e h = simp (e, lt-ltb _ _ h)

-- As many steps as there are bytes left are enough.
module _ (sheet program trace : List ℕ) where
  pub enough : (n m at : ℕ) (s : Stores) → length trace ≤ at + n → length trace ≤ at + m → records_from sheet program trace n at s ≡ records_from sheet program trace m at s
  enough zero m at s h g = rec-done sheet program trace zero at s (omega arith) ∙ sym (rec-done sheet program trace m at s (omega arith))
  enough (suc n) zero at s h g = rec-done sheet program trace (suc n) at s (omega arith) ∙ sym (rec-done sheet program trace zero at s (omega arith))
  enough (suc n) (suc m) at s h g = by (leb (length trace) at) refl (λ end after p q. enough n m end after p q)
    where
      rest : ((end : ℕ) (after : Stores) → length trace ≤ end + n → length trace ≤ end + m → records_from sheet program trace n end after ≡ records_from sheet program trace m end after) → at < length trace → (c : Option ℕ) → record_end trace at ≡ c → records_from sheet program trace (suc n) at s ≡ records_from sheet program trace (suc m) at s
      rest ih l None e = rec-cut sheet program trace n at s l e ∙ sym (rec-cut sheet program trace m at s l e)
      rest ih l (Some end) e =
          let w = whole_in trace at end e in
          rec-turn sheet program trace n at s end l e
          ∙ turn-alike (turn_of sheet program s (part trace (at + 2) end)) (bad_at sheet program trace at) (λ after. records_from sheet program trace n end after) (λ after. records_from sheet program trace m end after) (λ after. ih end after (omega arith) (omega arith))
          ∙ sym (rec-turn sheet program trace m at s end l e)

      by : (b : Bool) → leb (length trace) at ≡ b → ((end : ℕ) (after : Stores) → length trace ≤ end + n → length trace ≤ end + m → records_from sheet program trace n end after ≡ records_from sheet program trace m end after) → records_from sheet program trace (suc n) at s ≡ records_from sheet program trace (suc m) at s
      by true e ih =
          let l = leb-true (length trace) at e in
          rec-done sheet program trace (suc n) at s l ∙ sym (rec-done sheet program trace (suc m) at s l)
      by false e ih = rest ih (leb-false (length trace) at e) (record_end trace at) refl

-- ---- a block in a trace

module _ (before block more : List ℕ) where
  abbrev all : List ℕ
  all = before ++ (block ++ more)

  pub long : length all ≡ length before + (length block + length more)
  long = length-append before (block ++ more) ∙ ap (λ k. length before + k) (length-append block more)

  pub byte_in : (i : ℕ) → i < length block → get_or all (length before + i) 0 ≡ get_or block i 0
  byte_in i h = get_or-append-add before (block ++ more) i 0 ∙ get_or_append_left block more 0 i h

  pub length_in : (at : ℕ) → at + 1 < length block → be16 all (length before + at) ≡ be16 block at
  unfolding be16
  length_in at h = let e : length before + at + 1 ≡ length before + (at + 1) = omega arith in rw (e, byte_in at (omega arith), byte_in (at + 1) h)

  pub whole-inside : (at end : ℕ) → record_end block at ≡ Some end → record_end all (length before + at) ≡ Some (length before + end)
  whole-inside at end e =
      let w = whole_in block at end e in
      let l = long in
      let n = be16 block at in
      let k : length before + at + 2 + n ≡ length before + end = omega arith in
      whole-is all (length before + at) n (length_in at (omega arith)) (omega arith) ∙ ap Some k

  pub part-inside : (at end : ℕ) → at ≤ end → end ≤ length block → part all (length before + at) (length before + end) ≡ part block at end
  part-inside at end h g =
      let e : length before + end - (length before + at) ≡ end - at = omega arith in
      let d : drop (length before + at) all ≡ drop at block ++ more = drop-append-add before (block ++ more) at ∙ drop-append-le at block more (omega arith) in
      let k : end - at ≤ length (drop at block) = rw (length-drop at block) (omega arith) in
      rw (e, d) (take-append-le (end - at) (drop at block) more k)

module _ (before block : List ℕ) where
  -- A byte past the end reads as 0 in both.
  last_byte : (i : ℕ) → get_or (before ++ (block ++ [])) (length before + i) 0 ≡ get_or block i 0
  last_byte i = get_or-append-add before (block ++ []) i 0 ∙ ap (λ (l : List ℕ). get_or l i 0) (append-nil block)

  pub short-inside : (at : ℕ) → record_end block at ≡ None → record_end (before ++ (block ++ [])) (length before + at) ≡ None
  unfolding be16
  short-inside at e =
      let l = long before block [] in
      let z : length {A = ℕ} [] ≡ 0 = refl in
      let p = short-past block at e in
      short_is (before ++ (block ++ [])) (length before + at) (be16 block at) (same at) (omega arith)
    where
      same : (at : ℕ) → be16 (before ++ (block ++ [])) (length before + at) ≡ be16 block at
      same at = let f : length before + at + 1 ≡ length before + (at + 1) = omega arith in rw (f, last_byte at, last_byte (at + 1))
