-- A start tag: each way out; by its lower-cased name, from what the scan found.
use mathlib.Core.Path.{◌≡◌, sym, ap, ◌∙◌}
use mathlib.Core.Bool.{Bool, true, false}
use mathlib.Core.List.{List, map}
use Prim.Native.Nat.{ℕ, ◌+◌, ◌-◌, ◌≤◌}
use native.Mathlib.Nat.{zero-add}
use lib.ListN.{length, take, drop, length-map}
use Rattle.cells.specs.Stretches.{written}
use Rattle.letters.specs.Bytes.{lower_of}
use Rattle.names.specs.Names.{void_name}
use Rattle.stack.specs.Stores.{Stores}
use Rattle.exec.specs.Scans.{Sought, over, stopped, found_in, answer_from}
use Rattle.exec.specs.declared.scan.Scanned.{Scanned}
use Rattle.shapes.specs.Shapes.{esi_on, state_refusal}
use Rattle.weighing.specs.Weighing.{pairs_full, tag_refusal}
use Rattle.weighing.specs.Passing.{passed, stopped_by}
use Rattle.weighing.specs.Words.{no_ids, front}
use Rattle.course.specs.Course.{kind_of, begin}
use Rattle.accepting.specs.Accepting.{Answer, Reply, Outcome, outcome, reply}
use Rattle.accepting.specs.Refusing.{refusing-is}
use Rattle.tags.specs.Tags.{sought_of, begun, lowered}
use Rattle.starts.specs.Starts.{start_call}

-- ---- by its lower-cased name

sought-is : (s : Sought) (r : Scanned) (zeros last : List ℕ) → r ≡ answer_from 0 s → last ≡ written zeros 0 (found_in s) → length (found_in s) ≤ length zeros
    → sought_of (take (r.count - 0) (drop 0 last)) r.stopped_at ≡ s
unfolding answer_from found_in
sought-is (over found) r zeros last e f h = rw (e, f) (ap over (front zeros found (0 + length found) (zero-add (length found)) h))
sought-is (stopped found c) r zeros last e f h = rw (e, f) (ap (λ (l : List ℕ). stopped l c) (front zeros found (0 + length found) (zero-add (length found)) h))

module _ (sheet program : List ℕ) (s : Stores) (name : List ℕ) (kind : ℕ) (full : Bool) (e : full ≡ pairs_full s.rows s.names name) where
  pub lowered-full : (answer : Reply) → full ≡ true → answer ≡ reply (Answer.Refused 26) no_ids → outcome answer s ≡ lowered sheet program s name kind
  unfolding lowered
  lowered-full answer h q = rw (← e, h) (λ i. outcome (q i) s)

  pub lowered-begun : (o : Outcome) (r : Scanned) (zeros last : List ℕ) → full ≡ false
      → (r ≡ answer_from 0 (begin sheet program s.rows s.names s.nodes name kind)) × (last ≡ written zeros 0 (found_in (begin sheet program s.rows s.names s.nodes name kind)))
      → length (found_in (begin sheet program s.rows s.names s.nodes name kind)) ≤ length zeros
      → o ≡ begun sheet program s name kind (sought_of (take (r.count - 0) (drop 0 last)) r.stopped_at) → o ≡ lowered sheet program s name kind
  unfolding lowered
  lowered-begun o r zeros last h p l q = rw (← e, h) (q ∙ ap (begun sheet program s name kind) (sought-is (begin sheet program s.rows s.names s.nodes name kind) r zeros last p.0 p.1 l))

-- ---- the call

module _ (sheet program : List ℕ) (s : Stores) (namespace : ℕ) (name : List ℕ) (state : ℕ) (e : state ≡ state_refusal sheet program s) where
  pub start-state : (answer : Reply) → (state ≡ 0 → ⊥) → answer ≡ reply (Answer.Refused state) no_ids → outcome answer s ≡ start_call sheet program s namespace name
  unfolding start_call
  start-state answer h q = rw (stopped_by state _ e h) (refusing-is s answer state _ e q)

  module _ (z : state ≡ 0) (tag : ℕ) (f : tag ≡ tag_refusal s.rows namespace name) where
    pub start_tag : (answer : Reply) → (tag ≡ 0 → ⊥) → answer ≡ reply (Answer.Refused tag) no_ids → outcome answer s ≡ start_call sheet program s namespace name
    unfolding start_call
    start_tag answer h q = rw (passed state _ e z, stopped_by tag _ f h) (refusing-is s answer tag _ f q)

    pub start-lowered : (o : Outcome) (low last : List ℕ) (esi void : Bool) (kind : ℕ) → tag ≡ 0 → last ≡ written low 0 (map lower_of name) → length name ≤ length low
        → esi ≡ esi_on s.rows → void ≡ void_name esi name → kind ≡ kind_of namespace void
        → o ≡ lowered sheet program s (take (length name - 0) (drop 0 last)) kind → o ≡ start_call sheet program s namespace name
    unfolding start_call
    start-lowered o low last esi void kind h w l a b c q =
        let n : take (length name - 0) (drop 0 last) ≡ map lower_of name = ap (λ (x : List ℕ). take (length name - 0) (drop 0 x)) w ∙ front low (map lower_of name) (length name) (sym (length-map name lower_of)) (rw (length-map name lower_of) l) in
        let k : kind ≡ kind_of namespace (void_name (esi_on s.rows) name) = c ∙ ap (kind_of namespace) (b ∙ ap (λ (x : Bool). void_name x name) a) in
        rw (passed state _ e z, passed tag _ f h) (q ∙ (λ i. lowered sheet program s (n i) (k i)))
