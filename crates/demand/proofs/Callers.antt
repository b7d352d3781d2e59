-- DEMAND 1, for C callers: each of the five answers has ids only beside a kind that has ids, and a refusal's number exactly when it is refused; whatever was lent and called.
use Rattle.std.specs.Prelude.{◌≡◌, refl, ◌⊎◌, Bool, true, false, cond, not, List, ℕ, eqb, get_or}
use Rattle.std.proofs.Common.{sym, ap, subst, inl, inr, arith}
use Rattle.std.proofs.Math.Dec.{T}
use Rattle.stack.specs.Stores.{Stores, opens, ids_of_top}
use Rattle.shapes.specs.Shapes.{state_refusal}
use Rattle.weighing.specs.Words.{no_ids}
use Rattle.accepting.specs.Accepting as accepting
use Rattle.accepting.specs.Accepting.{Outcome}
use Rattle.making.specs.Making.{Made, fresh_call}
use Rattle.ends.specs.Ends.{Popped, Top, TopReply, end_call, top_reply, id_set_call}
use Rattle.starts.specs.Starts.{start_call}
use Rattle.resumes.specs.Resumes.{attributes_call}
use Rattle.told.specs.Told.{made_told, answer_told, reply_told, popped_told, top_told, top_reply_told}
use Rattle.meaning.specs.Lists.{◌∈◌, here, there, has}
use Rattle.meaning.proofs.ListLaws.{mem-has}
use Rattle.demand.specs.Statement.{host_start_tag, host_attributes, host_end_tag, host_ids_asked, tag_answer, end_answer, top_answer}
use Rattle.demand.specs.Numbers.{refusals_of, making_refusals}
use Rattle.demand.specs.Callers.{Reliable}
use Rattle.demand.proofs.Refused.{Kept, start-kept, attributes-kept}
use Rattle.demand.proofs.Numbers.{refused_number}
use Rattle.demand.proofs.MakingNumbers.{fresh-number, sheet-number}

-- A number of a list without 0 is not 0.
not-none : (l : List ℕ) (n : ℕ) → (T (has 0 l) → ⊥) → n ∈ l → n ≡ 0 → ⊥
not-none l n none m e = none (mem-has 0 l (subst (λ (k : ℕ). k ∈ l) e m))

-- ---- a reply

answer-reliable : (l : List ℕ) (a : accepting.Answer) (ids : List ℕ) → (T (has 0 l) → ⊥) → ((n : ℕ) → a ≡ accepting.Answer.Refused n → (ids ≡ no_ids) × (n ∈ l)) → (a ≡ accepting.Answer.Attributes → ids ≡ no_ids) → Reliable l (answer_told a (get_or ids 0 0) (get_or ids 1 0))
unfolding answer_told
answer-reliable l (accepting.Answer.Match content) ids none refusals asking = (λ h k. absurd (h refl), (λ h. absurd (omega arith), λ h. refl))
answer-reliable l accepting.Answer.Attributes ids none refusals asking =
    (λ h k. (ap (λ (z : List ℕ). get_or z 0 0) (asking refl), ap (λ (z : List ℕ). get_or z 1 0) (asking refl)), (λ h. absurd (omega arith), λ h. refl))
answer-reliable l (accepting.Answer.Refused n) ids none refusals asking =
    let (e, m) = refusals n refl in
    (λ h k. (ap (λ (z : List ℕ). get_or z 0 0) e, ap (λ (z : List ℕ). get_or z 1 0) e), (λ h. (m, not-none l n none m), λ h. absurd (h refl)))

outcome-reliable : (l : List ℕ) (s : Stores) (o : Outcome) → (T (has 0 l) → ⊥) → Kept s o → ((n : ℕ) → o.reply.answer ≡ accepting.Answer.Refused n → n ∈ l) → Reliable l (reply_told o.reply)
unfolding reply_told
outcome-reliable l s o none kept named =
    answer-reliable l o.reply.answer o.reply.ids none (λ n e. (ap (λ (z : Outcome). z.reply.ids) (kept.0 n e), named n e)) kept.1

-- ---- an end tag

popped-reliable : (l : List ℕ) (a : Popped) → (T (has 0 l) → ⊥) → ((n : ℕ) → a ≡ Popped.Refused n → n ∈ l) → Reliable l (popped_told a)
unfolding popped_told
popped-reliable l (Popped.Elements n) none named = (λ h k. (refl, refl), (λ h. absurd (omega arith), λ h. refl))
popped-reliable l (Popped.Refused n) none named = (λ h k. (refl, refl), (λ h. (named n refl, not-none l n none (named n refl)), λ h. absurd (h refl)))

-- ---- the ids of the top open element

-- Ids come with the answer that has them.
abbrev TopKept : TopReply → Type 0
TopKept r = (r.top ≡ Top.Ids) ⊎ (r.ids ≡ no_ids)

top-either : (b : Bool) (x y : TopReply) → TopKept x → TopKept y → TopKept (cond b x y)
top-either true x y p q = p
top-either false x y p q = q

abbrev is_ids : Top → Bool
is_ids Top.Ids = true
is_ids Top.NothingOpen = false
is_ids (Top.Refused n) = false

other-top : (a : Top) → (T (is_ids a) → ⊥) → a ≡ Top.Ids → ⊥
other-top a other e = other (subst T (sym (ap is_ids e)) tt)

top-reliable : (l : List ℕ) (a : Top) (ids : List ℕ) → (T (has 0 l) → ⊥) → ((a ≡ Top.Ids) ⊎ (ids ≡ no_ids)) → ((n : ℕ) → a ≡ Top.Refused n → n ∈ l) → Reliable l (top_told a (get_or ids 0 0) (get_or ids 1 0))
unfolding top_told
top-reliable l Top.Ids ids none kept named = (λ h k. absurd (k refl), (λ h. absurd (omega arith), λ h. refl))
top-reliable l Top.NothingOpen ids none (inl e) named = absurd (other-top Top.NothingOpen (λ t. t) e)
top-reliable l Top.NothingOpen ids none (inr e) named =
    (λ h k. (ap (λ (z : List ℕ). get_or z 0 0) e, ap (λ (z : List ℕ). get_or z 1 0) e), (λ h. absurd (omega arith), λ h. refl))
top-reliable l (Top.Refused n) ids none (inl e) named = absurd (other-top (Top.Refused n) (λ t. t) e)
top-reliable l (Top.Refused n) ids none (inr e) named =
    (λ h k. (ap (λ (z : List ℕ). get_or z 0 0) e, ap (λ (z : List ℕ). get_or z 1 0) e), (λ h. (named n refl, not-none l n none (named n refl)), λ h. absurd (h refl)))

-- ---- making a machine

made-reliable : (a : Made) → ((n : ℕ) → a ≡ Made.Refused n → n ∈ making_refusals) → ((n place : ℕ) → a ≡ Made.Sheet n place → n ∈ making_refusals) → Reliable making_refusals (made_told a)
unfolding made_told
made-reliable Made.Ready bare placed = (λ h k. (refl, refl), (λ h. absurd (omega arith), λ h. refl))
made-reliable (Made.Sheet n place) bare placed = (λ h k. (refl, refl), (λ h. (placed n place refl, not-none making_refusals n (λ t. t) (placed n place refl)), λ h. absurd (h refl)))
made-reliable (Made.Refused n) bare placed = (λ h k. (refl, refl), (λ h. (bare n refl, not-none making_refusals n (λ t. t) (bare n refl)), λ h. absurd (h refl)))

-- ---- the five calls

pub fresh_reliable : (sheet : List ℕ) (esi : Bool) (program : List ℕ) (s : Stores) → Reliable making_refusals (made_told (fresh_call sheet esi program s).made)
fresh_reliable sheet esi program s = made-reliable (fresh_call sheet esi program s).made (λ n e. here (fresh-number sheet esi program s n e)) (λ n place e. there (sheet-number sheet esi program s n place e))

module _ (sheet program : List ℕ) (s : Stores) where
  pub start-reliable : (namespace : ℕ) (name : List ℕ) → Reliable (refusals_of (host_start_tag namespace name)) (reply_told (start_call sheet program s namespace name).reply)
  start-reliable namespace name =
      let o = start_call sheet program s namespace name in
      outcome-reliable (refusals_of (host_start_tag namespace name)) s o (λ t. t) (start-kept sheet program s namespace name)
      (λ n e. refused_number sheet program s (host_start_tag namespace name) n (ap (λ (a : accepting.Answer). tag_answer a o.reply.ids) e))

  pub attributes-reliable : (self_closing : Bool) (input outlines : List ℕ) → Reliable (refusals_of (host_attributes self_closing input outlines)) (reply_told (attributes_call sheet program s self_closing input outlines).reply)
  attributes-reliable self_closing input outlines =
      let o = attributes_call sheet program s self_closing input outlines in
      outcome-reliable (refusals_of (host_attributes self_closing input outlines)) s o (λ t. t) (attributes-kept sheet program s self_closing input outlines)
      (λ n e. refused_number sheet program s (host_attributes self_closing input outlines) n (ap (λ (a : accepting.Answer). tag_answer a o.reply.ids) e))

  pub end-reliable : (name buffer : List ℕ) → Reliable (refusals_of (host_end_tag name buffer)) (popped_told (end_call sheet program s name buffer).answer)
  end-reliable name buffer =
      let o = end_call sheet program s name buffer in
      popped-reliable (refusals_of (host_end_tag name buffer)) o.answer (λ t. t) (λ n e. refused_number sheet program s (host_end_tag name buffer) n (ap (λ (a : Popped). end_answer a o.out) e))

  ids-kept : TopKept (id_set_call sheet program s)
  unfolding id_set_call
  ids-kept =
      let rest = cond (eqb (opens s.rows) 0) (top_reply Top.NothingOpen no_ids) (top_reply Top.Ids (ids_of_top s.rows s.ids no_ids)) in
      top-either (not (eqb (state_refusal sheet program s) 0)) (top_reply (Top.Refused (state_refusal sheet program s)) no_ids) rest (inr refl)
      (top-either (eqb (opens s.rows) 0) (top_reply Top.NothingOpen no_ids) (top_reply Top.Ids (ids_of_top s.rows s.ids no_ids)) (inr refl) (inl refl))

  pub ids-reliable : Reliable (refusals_of host_ids_asked) (top_reply_told (id_set_call sheet program s))
  unfolding top_reply_told
  ids-reliable =
      let r = id_set_call sheet program s in
      top-reliable (refusals_of host_ids_asked) r.top r.ids (λ t. t) ids-kept (λ n e. refused_number sheet program s host_ids_asked n (ap (λ (a : Top). top_answer a r.ids) e))
