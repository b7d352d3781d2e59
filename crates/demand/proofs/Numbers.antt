-- DEMAND 1: a refused call leaves the stores as they were, and every refusal is one of 01's numbers for that call; whatever bytes the sheet, the program, the stores and the call hold.
use Rattle.std.specs.Prelude.{◌≡◌, refl, ◌⊎◌, Bool, true, false, cond, not, List, map, ℕ, ◌*◌, eqb, ltb, length}
use Rattle.std.proofs.Common.{sym, ap, subst, inl, inr}
use Rattle.std.proofs.Math.Dec.{T}
use Rattle.letters.specs.Bytes.{lower_of}
use Rattle.names.specs.Names.{void_name}
use Rattle.stack.specs.Stores.{Stores, stores, id_words, opens, popped_count, ids_of_top, held_name, held_kind, released}
use Rattle.exec.specs.Scans.{Sought, over, stopped}
use Rattle.shapes.specs.Shapes.{esi_on, state_refusal}
use Rattle.weighing.specs.Weighing.{tag_refusal, pairs_full, push_refusal, attributes_refusal, end_refusal}
use Rattle.weighing.specs.Words.{no_ids}
use Rattle.course.specs.Course.{kind_of, has_content, begin, resumed}
use Rattle.accepting.specs.Accepting as accepting
use Rattle.accepting.specs.Accepting.{Outcome, refusing, accepted}
use Rattle.tags.specs.Tags.{whole, begun, lowered, given}
use Rattle.ends.specs.Ends.{Popped, Top, Ended, ended, popping, end_call, top_reply, id_set_call}
use Rattle.starts.specs.Starts.{start_call}
use Rattle.resumes.specs.Resumes.{attributes_call}
use Rattle.meaning.specs.Lists.{◌∈◌, has}
use Rattle.meaning.proofs.ListLaws.{has-mem}
use Rattle.meaning.specs.Calls.{Answer, matched, attributes_wanted, popped, top_ids, nothing_open, refused}
use Rattle.demand.specs.Statement.{HostCall, host_start_tag, host_attributes, host_end_tag, host_ids_asked, tag_answer, end_answer, top_answer, called}
use Rattle.demand.specs.Numbers.{refusals_of}
use Rattle.demand.proofs.Refused.{start-kept, attributes-kept, end_kept}

-- ---- a refused call changes no store

abbrev is_refused : Answer (List ℕ) → Bool
is_refused (refused n) = true
is_refused (matched ids content) = false
is_refused attributes_wanted = false
is_refused (popped ids) = false
is_refused (top_ids ids) = false
is_refused nothing_open = false

abbrev number_in : Answer (List ℕ) → ℕ
number_in (refused n) = n
number_in (matched ids content) = 0
number_in attributes_wanted = 0
number_in (popped ids) = 0
number_in (top_ids ids) = 0
number_in nothing_open = 0

tag-refused : (a : accepting.Answer) (ids : List ℕ) (n : ℕ) → tag_answer a ids ≡ refused n → a ≡ accepting.Answer.Refused n
tag-refused (accepting.Answer.Match content) ids n e = absurd (subst T (sym (ap is_refused e)) tt)
tag-refused accepting.Answer.Attributes ids n e = absurd (subst T (sym (ap is_refused e)) tt)
tag-refused (accepting.Answer.Refused number) ids n e = ap accepting.Answer.Refused (ap number_in e)

end-refused : (a : Popped) (buffer : List ℕ) (n : ℕ) → end_answer a buffer ≡ refused n → a ≡ Popped.Refused n
end-refused (Popped.Elements k) buffer n e = absurd (subst T (sym (ap is_refused e)) tt)
end-refused (Popped.Refused number) buffer n e = ap Popped.Refused (ap number_in e)

pub refused_kept : (sheet program : List ℕ) (s : Stores) (x : HostCall) (n : ℕ) → (called sheet program s x).0 ≡ refused n → (called sheet program s x).1 ≡ s
refused_kept sheet program s (host_start_tag namespace name) n e =
    let o = start_call sheet program s namespace name in
    ap (λ (z : Outcome). z.after) ((start-kept sheet program s namespace name).0 n (tag-refused o.reply.answer o.reply.ids n e))
refused_kept sheet program s (host_attributes self_closing input outlines) n e =
    let o = attributes_call sheet program s self_closing input outlines in
    ap (λ (z : Outcome). z.after) ((attributes-kept sheet program s self_closing input outlines).0 n (tag-refused o.reply.answer o.reply.ids n e))
refused_kept sheet program s (host_end_tag name buffer) n e =
    let o = end_call sheet program s name buffer in
    ap (λ (z : Ended). stores z.rows s.names s.ids s.nodes) (end_kept sheet program s name buffer n (end-refused o.answer o.out n e))
refused_kept sheet program s host_ids_asked n e = refl

-- ---- every refusal is one of the call's numbers

-- A number that is none (0) or in the list; an answer that is none or whose number is in the list.
abbrev Numbered : List ℕ → ℕ → Type 0
Numbered l n = (n ≡ 0) ⊎ (n ∈ l)

abbrev Within : List ℕ → Answer (List ℕ) → Type 0
Within l (refused n) = n ∈ l
Within l (matched ids content) = Unit
Within l attributes_wanted = Unit
Within l (popped ids) = Unit
Within l (top_ids ids) = Unit
Within l nothing_open = Unit

abbrev Named : List ℕ → Outcome → Type 0
Named l o = Within l (tag_answer o.reply.answer o.reply.ids)

abbrev EndNamed : List ℕ → Ended → Type 0
EndNamed l o = Within l (end_answer o.answer o.out)

-- Whichever way a test goes.
either : {X : Type 0} (P : X → Type 0) (b : Bool) (x y : X) → P x → P y → P (cond b x y)
either P true x y p q = p
either P false x y p q = q

-- A refusal that was looked for goes first, if there is one.
first : {X : Type 0} (P : X → Type 0) (l : List ℕ) (f : ℕ → X) → ((n : ℕ) → n ∈ l → P (f n)) → (r : ℕ) (rest : X) → Numbered l r → P rest → P (cond (not (eqb r 0)) (f r) rest)
first P l f named r rest (inl e) p = subst (λ (k : ℕ). P (cond (not (eqb k 0)) (f k) rest)) (sym e) p
first P l f named r rest (inr m) p = either P (not (eqb r 0)) (f r) rest (named r m) p

module _ (sheet program : List ℕ) (l : List ℕ) where
  state-numbered : (s : Stores) → T (has 31 l) → T (has 30 l) → Numbered l (state_refusal sheet program s)
  unfolding state_refusal
  state-numbered s a b =
      either (Numbered l) _ 31 _ (inr (has-mem 31 l a))
      (either (Numbered l) _ 30 0 (inr (has-mem 30 l b)) (inl refl))

  push-numbered : (rows : List ℕ) (content : Bool) (found : List ℕ) → T (has 27 l) → T (has 28 l) → Numbered l (push_refusal sheet program rows content found)
  unfolding push_refusal
  push-numbered rows content found a b =
      either (Numbered l) _ 0 _ (inl refl)
      (either (Numbered l) _ 27 _ (inr (has-mem 27 l a))
      (either (Numbered l) _ 28 0 (inr (has-mem 28 l b)) (inl refl)))

  whole-named : (old s : Stores) (name : List ℕ) (content : Bool) (found : List ℕ) → T (has 27 l) → T (has 28 l) → Named l (whole sheet program old s name content found)
  unfolding whole accepted
  whole-named old s name content found a b =
      first (Named l) l (λ (n : ℕ). refusing n old) (λ n m. m) (push_refusal sheet program s.rows content found) (accepted sheet program s name content found) (push-numbered s.rows content found a b) tt

module _ (sheet program : List ℕ) where
  tag-numbered : (rows : List ℕ) (namespace : ℕ) (name : List ℕ) → Numbered (refusals_of (host_start_tag namespace name)) (tag_refusal rows namespace name)
  unfolding tag_refusal
  tag-numbered rows namespace name =
      let l = refusals_of (host_start_tag namespace name) in
      either (Numbered l) _ 22 _ (inr (has-mem 22 l tt))
      (either (Numbered l) _ 20 _ (inr (has-mem 20 l tt))
      (either (Numbered l) _ 21 _ (inr (has-mem 21 l tt))
      (either (Numbered l) _ 25 0 (inr (has-mem 25 l tt)) (inl refl))))

  begun_named : (l : List ℕ) → T (has 27 l) → T (has 28 l) → (s : Stores) (name : List ℕ) (kind : ℕ) (so : Sought) → Named l (begun sheet program s name kind so)
  unfolding begun
  begun_named l a b s name kind (over found) = whole-named sheet program l s s name (has_content kind false) found a b
  begun_named l a b s name kind (stopped found c) = tt

  start-named : (s : Stores) (namespace : ℕ) (name : List ℕ) → Named (refusals_of (host_start_tag namespace name)) (start_call sheet program s namespace name)
  unfolding start_call lowered
  start-named s namespace name =
      let l = refusals_of (host_start_tag namespace name) in
      let low = map lower_of name in
      let kind = kind_of namespace (void_name (esi_on s.rows) name) in
      first (Named l) l (λ (n : ℕ). refusing n s) (λ n m. m) (state_refusal sheet program s) _ (state-numbered sheet program l s tt tt)
      (first (Named l) l (λ (n : ℕ). refusing n s) (λ n m. m) (tag_refusal s.rows namespace name) _ (tag-numbered s.rows namespace name)
      (either (Named l) (pairs_full s.rows s.names low) (refusing 26 s) (begun sheet program s low kind (begin sheet program s.rows s.names s.nodes low kind)) (has-mem 26 l tt)
      (begun_named l tt tt s low kind (begin sheet program s.rows s.names s.nodes low kind))))

  attributes-named : (s : Stores) (self_closing : Bool) (input outlines : List ℕ) → Named (refusals_of (host_attributes self_closing input outlines)) (attributes_call sheet program s self_closing input outlines)
  unfolding attributes_call attributes_refusal given
  attributes-named s self_closing input outlines =
      let l = refusals_of (host_attributes self_closing input outlines) in
      let name = held_name s.rows s.names in
      first (Named l) l (λ (n : ℕ). refusing n s) (λ n m. m) (state_refusal sheet program s) _ (state-numbered sheet program l s tt tt)
      (first (Named l) l (λ (n : ℕ). refusing n s) (λ n m. m) (attributes_refusal s.rows input outlines) _
      (either (Numbered l) _ 23 _ (inr (has-mem 23 l tt))
      (either (Numbered l) _ 24 0 (inr (has-mem 24 l tt)) (inl refl)))
      (whole-named sheet program l s (released s) name (has_content (held_kind s.rows) self_closing) (resumed sheet program s.rows s.names s.nodes name input outlines) tt tt))

  end-named : (s : Stores) (name buffer : List ℕ) → EndNamed (refusals_of (host_end_tag name buffer)) (end_call sheet program s name buffer)
  unfolding end_call end_refusal popping
  end-named s name buffer =
      let l = refusals_of (host_end_tag name buffer) in
      let n = popped_count s.rows s.names (map lower_of name) in
      first (EndNamed l) l (λ (n : ℕ). ended (Popped.Refused n) s.rows buffer) (λ n m. m) (state_refusal sheet program s) _ (state-numbered sheet program l s tt tt)
      (first (EndNamed l) l (λ (n : ℕ). ended (Popped.Refused n) s.rows buffer) (λ n m. m) (end_refusal s.rows name) _
      (either (Numbered l) _ 22 _ (inr (has-mem 22 l tt))
      (either (Numbered l) _ 20 0 (inr (has-mem 20 l tt)) (inl refl)))
      (either (EndNamed l) (ltb (length buffer) (n * id_words)) (ended (Popped.Refused 29) s.rows buffer) _ (has-mem 29 l tt) tt))

  ids-named : (s : Stores) → Within (refusals_of host_ids_asked) (top_answer (id_set_call sheet program s).top (id_set_call sheet program s).ids)
  unfolding id_set_call
  ids-named s =
      let l = refusals_of host_ids_asked in
      first (λ o. Within l (top_answer o.top o.ids)) l (λ (n : ℕ). top_reply (Top.Refused n) no_ids) (λ n m. m) (state_refusal sheet program s) _ (state-numbered sheet program l s tt tt)
      (either (λ o. Within l (top_answer o.top o.ids)) (eqb (opens s.rows) 0) (top_reply Top.NothingOpen no_ids) (top_reply Top.Ids (ids_of_top s.rows s.ids no_ids)) tt tt)

  call-named : (s : Stores) (x : HostCall) → Within (refusals_of x) (called sheet program s x).0
  call-named s (host_start_tag namespace name) = start-named s namespace name
  call-named s (host_attributes self_closing input outlines) = attributes-named s self_closing input outlines
  call-named s (host_end_tag name buffer) = end-named s name buffer
  call-named s host_ids_asked = ids-named s

  pub refused_number : (s : Stores) (x : HostCall) (n : ℕ) → (called sheet program s x).0 ≡ refused n → n ∈ refusals_of x
  refused_number s x n e = subst (Within (refusals_of x)) e (call-named s x)
