-- A start tag from its scan to its reply: it waits, it is refused, or it is accepted.
use mathlib.Core.Path.{◌≡◌, sym, ap, ◌∙◌}
use mathlib.Core.Bool.{Bool, false}
use mathlib.Core.List.{List}
use Prim.Native.Nat.{ℕ, ◌≤◌}
use native.Mathlib.Omega.{arith}
use lib.ListN.{get_or}
use Rattle.std.specs.Prelude.{Some, None}
use Rattle.cells.specs.Stretches.{written, get_off}
use Rattle.stack.specs.Stores.{Stores, stores, opens, parents_top, ancestors_top, found_from, held_rows, released_rows}
use Rattle.cursors.specs.declared.Cursor.{Cursor}
use Rattle.weighing.specs.Weighing.{push_refusal}
use Rattle.weighing.specs.Passing.{passed, stopped_by}
use Rattle.weighing.specs.Words.{cell, no_ids}
use Rattle.accepting.specs.Accepting.{Answer, Reply, Outcome, outcome, reply, accepted}
use Rattle.accepting.specs.Refusing.{refusing-is}
use Rattle.course.specs.Course.{has_content}
use Rattle.tags.specs.Tags.{sought_of, whole, begun}

-- ---- header words that a release leaves as they are

released-header : (rows : List ℕ) (j : ℕ) → (j ≡ 4 → ⊥) → get_or (released_rows rows) j 0 ≡ get_or rows j 0
released-header rows j h = get_off rows 4 0 j h

released-refusal : (sheet program rows : List ℕ) (content : Bool) (found : List ℕ) → push_refusal sheet program (released_rows rows) content found ≡ push_refusal sheet program rows content found
unfolding push_refusal
released-refusal sheet program rows content found = rw (released-header rows 0 (λ e. omega arith), released-header rows 1 (λ e. omega arith))

-- ---- the tag is whole

module _ (sheet program : List ℕ) (old s : Stores) (name : List ℕ) (content : Bool) (found : List ℕ) (r : ℕ) (e : r ≡ push_refusal sheet program s.rows content found) where
  pub whole-refused : (answer : Reply) → (r ≡ 0 → ⊥) → answer ≡ reply (Answer.Refused r) no_ids → outcome answer old ≡ whole sheet program old s name content found
  unfolding whole
  whole-refused answer h q = rw (stopped_by r _ e h) (refusing-is old answer r _ e q)

  pub whole-accepted : (o : Outcome) → r ≡ 0 → o ≡ accepted sheet program s name content found → o ≡ whole sheet program old s name content found
  unfolding whole
  whole-accepted o h q = rw (passed r _ e h) q

-- after the waiting tag was released
pub still-refused : (sheet program rows : List ℕ) (content : Bool) (found : List ℕ) (r : ℕ) → r ≡ push_refusal sheet program rows content found → r ≡ push_refusal sheet program (released_rows rows) content found
still-refused sheet program rows content found r e = e ∙ sym (released-refusal sheet program rows content found)

module _ (rows rows₁ : List ℕ) (a : rows₁ ≡ released_rows rows) where
  pub held-accepted : (sheet program : List ℕ) (content : Bool) (found : List ℕ) (old : Stores) (names ids nodes name : List ℕ) (r : ℕ) (o : Outcome) → r ≡ push_refusal sheet program rows content found → r ≡ 0
      → o ≡ accepted sheet program (stores rows₁ names ids nodes) name content found → o ≡ whole sheet program old (stores (released_rows rows) names ids nodes) name content found
  held-accepted sheet program content found old names ids nodes name r o e h q =
      whole-accepted sheet program old (stores (released_rows rows) names ids nodes) name content found r (still-refused sheet program rows content found r e) o h (q ∙ ap (λ (x : List ℕ). accepted sheet program (stores x names ids nodes) name content found) a)

  pub still-passed : (sheet program : List ℕ) (content : Bool) (found : List ℕ) (r : ℕ) → r ≡ push_refusal sheet program rows content found → r ≡ 0 → push_refusal sheet program rows₁ content found ≡ 0
  still-passed sheet program content found r e h = rw a (released-refusal sheet program rows content found ∙ sym e ∙ h)

  pub still_open : opens rows ≤ 256 → opens rows₁ ≤ 256
  still_open h = rw (a, released-header rows 0 (λ z. omega arith)) h

  pub still-parents : parents_top rows ≤ 4096 → parents_top rows₁ ≤ 4096
  still-parents h = rw (a, released-header rows 1 (λ z. omega arith)) h

  pub still-ancestors : ancestors_top rows ≤ 1024 → ancestors_top rows₁ ≤ 1024
  still-ancestors h = rw (a, released-header rows 2 (λ z. omega arith)) h

-- the tag waits, or its scan is over
module _ (sheet program rows names ids nodes name : List ℕ) (kind : ℕ) (found : List ℕ) where
  pub begun-waits : (c : Cursor) (rows₁ names₁ nodes₁ : List ℕ) (slot at stop : ℕ) → slot ≡ cell c.slot → at ≡ cell c.at → stop ≡ cell c.stop
      → (rows₁ ≡ held_rows rows name kind found c.stage slot at stop) × (names₁ ≡ written names 0 name) × (nodes₁ ≡ written nodes found_from found)
      → outcome (reply Answer.Attributes no_ids) (stores rows₁ names₁ ids nodes₁) ≡ begun sheet program (stores rows names ids nodes) name kind (sought_of found (Some c))
  unfolding begun
  begun-waits c rows₁ names₁ nodes₁ slot at stop a b d (p, q, r) =
      (λ i. outcome (reply Answer.Attributes no_ids) (stores (p i) (q i) ids (r i))) ∙ (λ i. outcome (reply Answer.Attributes no_ids) (stores (held_rows rows name kind found c.stage (a i) (b i) (d i)) (written names 0 name) ids (written nodes found_from found)))

  pub begun-over : (o : Outcome) (content : Bool) → content ≡ has_content kind false → o ≡ whole sheet program (stores rows names ids nodes) (stores rows names ids nodes) name content found → o ≡ begun sheet program (stores rows names ids nodes) name kind (sought_of found None)
  unfolding begun
  begun-over o content g e = e ∙ ap (λ (b : Bool). whole sheet program (stores rows names ids nodes) (stores rows names ids nodes) name b found) g
