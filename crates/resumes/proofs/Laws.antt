-- The waiting tag with its attributes: from what the scan found, and each way out.
use mathlib.Core.Path.{◌≡◌, sym, ap, ◌∙◌}
use mathlib.Core.Bool.{Bool}
use mathlib.Core.List.{List}
use Prim.Native.Nat.{ℕ, ◌-◌, ◌≤◌}
use lib.ListN.{length, get_or, take, drop}
use Rattle.cells.specs.Stretches.{written, length-cells}
use Rattle.stack.specs.Stores.{Stores, held_name, released}
use Rattle.shapes.specs.Shapes.{state_refusal}
use Rattle.weighing.specs.Weighing.{attributes_refusal}
use Rattle.weighing.specs.Passing.{passed, stopped_by}
use Rattle.weighing.specs.Words.{no_ids, front}
use Rattle.course.specs.Course.{has_content, resumed}
use Rattle.accepting.specs.Accepting.{Answer, Reply, Outcome, outcome, reply}
use Rattle.accepting.specs.Refusing.{refusing-is}
use Rattle.tags.specs.Tags.{whole, given}
use Rattle.resumes.specs.Resumes.{attributes_call}

-- ---- its name at hand

pub given_is : (sheet program : List ℕ) (s : Stores) (name : List ℕ) (closing : Bool) (input outlines zeros last : List ℕ) (n kind : ℕ) (content : Bool) (o : Outcome)
    → (n ≡ length (resumed sheet program s.rows s.names s.nodes name input outlines)) × (last ≡ written zeros 0 (resumed sheet program s.rows s.names s.nodes name input outlines))
    → length (resumed sheet program s.rows s.names s.nodes name input outlines) ≤ length zeros → kind ≡ get_or s.rows 6 0 → content ≡ has_content kind closing
    → o ≡ whole sheet program s (released s) name content (take (n - 0) (drop 0 last)) → o ≡ given sheet program s name closing input outlines
unfolding given
given_is sheet program s name closing input outlines zeros last n kind content o p l k c q =
    let f : take (n - 0) (drop 0 last) ≡ resumed sheet program s.rows s.names s.nodes name input outlines = ap (λ (x : List ℕ). take (n - 0) (drop 0 x)) p.1 ∙ front zeros (resumed sheet program s.rows s.names s.nodes name input outlines) n p.0 l in
    q ∙ (λ i. whole sheet program s (released s) name ((c ∙ ap (λ (x : ℕ). has_content x closing) k) i) (f i))

-- ---- the call

module _ (sheet program : List ℕ) (s : Stores) (closing : Bool) (input outlines : List ℕ) (state : ℕ) (e : state ≡ state_refusal sheet program s) where
  pub attributes-state : (answer : Reply) → (state ≡ 0 → ⊥) → answer ≡ reply (Answer.Refused state) no_ids → outcome answer s ≡ attributes_call sheet program s closing input outlines
  unfolding attributes_call
  attributes-state answer h q = rw (stopped_by state _ e h) (refusing-is s answer state _ e q)

  module _ (z : state ≡ 0) (r : ℕ) (f : r ≡ attributes_refusal s.rows input outlines) where
    pub attributes_refused : (answer : Reply) → (r ≡ 0 → ⊥) → answer ≡ reply (Answer.Refused r) no_ids → outcome answer s ≡ attributes_call sheet program s closing input outlines
    unfolding attributes_call
    attributes_refused answer h q = rw (passed state _ e z, stopped_by r _ f h) (refusing-is s answer r _ f q)

    pub attributes-given : (o : Outcome) (low last : List ℕ) (n : ℕ) → r ≡ 0 → (n ≡ get_or s.rows 5 0) × (last ≡ written low 0 (held_name s.rows s.names)) → get_or s.rows 5 0 ≤ length low
        → o ≡ given sheet program s (take (n - 0) (drop 0 last)) closing input outlines → o ≡ attributes_call sheet program s closing input outlines
    unfolding attributes_call
    attributes-given o low last n h p l q =
        let c : length (held_name s.rows s.names) ≡ get_or s.rows 5 0 = length-cells s.names 0 (get_or s.rows 5 0) in
        let m : take (n - 0) (drop 0 last) ≡ held_name s.rows s.names = ap (λ (x : List ℕ). take (n - 0) (drop 0 x)) p.1 ∙ front low (held_name s.rows s.names) n (p.0 ∙ sym c) (rw c l) in
        rw (passed state _ e z, passed r _ f h) (q ∙ (λ i. given sheet program s (m i) closing input outlines))
