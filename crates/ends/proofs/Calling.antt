-- End tag and id set asked: each way out.
use mathlib.Core.Path.{◌≡◌, refl, sym, ap, ◌∙◌}
use mathlib.Core.Bool.{Bool, true, false, cond}
use mathlib.Core.List.{List, map}
use Prim.Native.Nat.{ℕ, ◌-◌, ◌*◌, ◌/◌, ◌<◌, ◌≤◌}
use Rattle.std.specs.Prelude.{Option, None, Some, Ok}
use native.Mathlib.Omega.{arith}
use borrow.Author.Tests.{lt-ltb, le-ltb}
use lib.Dec.{eqb, ltb}
use lib.ListN.{length, take, drop, length-map}
use Rattle.cells.specs.Stretches.{written}
use Rattle.letters.specs.Bytes.{lower_of}
use Rattle.stack.specs.Stores.{Stores, opens, popped_count, popped_rows, popped_ids, ids_of_top}
use Rattle.shapes.specs.Shapes.{state_refusal}
use Rattle.weighing.specs.Weighing.{end_refusal}
use Rattle.weighing.specs.Passing.{passed, stopped_by}
use Rattle.weighing.specs.Words.{no_ids, front}
use Rattle.ends.specs.Ends.{Popped, Top, Ended, ended, popping, end_call, top_reply, top_of, id_set_call}

-- ---- end tag

module _ (rows names ids out name : List ℕ) (n : ℕ) (e : n ≡ popped_count rows names name) where
  pub popping-short : length out / 2 < n → ended (Popped.Refused 29) rows out ≡ popping rows ids out (popped_count rows names name)
  unfolding popping
  popping-short h = rw (lt-ltb (length out) (popped_count rows names name * 2) (omega (arith, e, h)))

  pub popping-done : (rows₁ out₁ : List ℕ) → n ≤ length out / 2 → (rows₁ ≡ popped_rows rows n) × (out₁ ≡ popped_ids rows ids out n) → ended (Popped.Elements n) rows₁ out₁ ≡ popping rows ids out (popped_count rows names name)
  unfolding popping
  popping-done rows₁ out₁ h p = rw (le-ltb (length out) (popped_count rows names name * 2) (omega (arith, e, h))) ((λ i. ended (Popped.Elements n) (p.0 i) (p.1 i)) ∙ (λ i. ended (Popped.Elements (e i)) (popped_rows rows (e i)) (popped_ids rows ids out (e i))))

module _ (sheet program : List ℕ) (s : Stores) (name out : List ℕ) (state : ℕ) (e : state ≡ state_refusal sheet program s) where
  pub end-state : (state ≡ 0 → ⊥) → ended (Popped.Refused state) s.rows out ≡ end_call sheet program s name out
  unfolding end_call
  end-state h = rw (stopped_by state _ e h) (λ i. ended (Popped.Refused (e i)) s.rows out)

  module _ (z : state ≡ 0) (tag : ℕ) (f : tag ≡ end_refusal s.rows name) where
    pub end_tag : (tag ≡ 0 → ⊥) → ended (Popped.Refused tag) s.rows out ≡ end_call sheet program s name out
    unfolding end_call
    end_tag h = rw (passed state _ e z, stopped_by tag _ f h) (λ i. ended (Popped.Refused (f i)) s.rows out)

    pub end-lowered : (o : Ended) (low last : List ℕ) → tag ≡ 0 → last ≡ written low 0 (map lower_of name) → length name ≤ length low
        → o ≡ popping s.rows s.ids out (popped_count s.rows s.names (take (length name - 0) (drop 0 last))) → o ≡ end_call sheet program s name out
    unfolding end_call
    end-lowered o low last h w l q =
        let n : take (length name - 0) (drop 0 last) ≡ map lower_of name = ap (λ (x : List ℕ). take (length name - 0) (drop 0 x)) w ∙ front low (map lower_of name) (length name) (sym (length-map name lower_of)) (rw (length-map name lower_of) l) in
        rw (passed state _ e z, passed tag _ f h) (q ∙ ap (λ (x : List ℕ). popping s.rows s.ids out (popped_count s.rows s.names x)) n)

-- ---- id set asked

module _ (sheet program : List ℕ) (s : Stores) (state : ℕ) (e : state ≡ state_refusal sheet program s) where
  pub asked-state : (state ≡ 0 → ⊥) → top_reply (Top.Refused state) no_ids ≡ id_set_call sheet program s
  unfolding id_set_call
  asked-state h = rw (stopped_by state _ e h) (λ i. top_reply (Top.Refused (e i)) no_ids)

  pub asked : (z : state ≡ 0) (r : Option (List ℕ)) → r ≡ cond (eqb (opens s.rows) 0) None (Some (ids_of_top s.rows s.ids no_ids)) → top_of (Ok r) ≡ id_set_call sheet program s
  unfolding id_set_call
  asked z r q = rw (passed state _ e z, q) (go (eqb (opens s.rows) 0))
    where
      go : (b : Bool) → top_of (Ok (cond b None (Some (ids_of_top s.rows s.ids no_ids)))) ≡ cond b (top_reply Top.NothingOpen no_ids) (top_reply Top.Ids (ids_of_top s.rows s.ids no_ids))
      go true = refl
      go false = refl
