-- DEMAND 1, its last sentence: whatever bytes the stores hold, a refused call hands out no id and leaves every store and buffer as it was. Nor does a tag that begins to wait hand out an id.
use Rattle.std.specs.Prelude.{◌≡◌, refl, ◌⊎◌, Bool, true, false, not, List, map, ℕ, ◌*◌, eqb, ltb, length}
use Rattle.std.proofs.Common.{sym, ap, subst, inl, inr, arith}
use Rattle.std.proofs.Math.Bool.{cond}
use Rattle.std.proofs.Math.Dec.{T}
use Rattle.letters.specs.Bytes.{lower_of}
use Rattle.names.specs.Names.{void_name}
use Rattle.sheet.specs.Parser.{parse_sheet}
use Rattle.compiler.specs.Compiler.{compiled_of}
use Rattle.refusals.specs.Numbers.{Judged}
use Rattle.stack.specs.Stores.{Stores, id_words, popped_count, popped_rows, popped_ids, held_name, held_kind, released}
use Rattle.exec.specs.Scans.{Sought, over, stopped}
use Rattle.shapes.specs.Shapes.{esi_on, sized, state_refusal}
use Rattle.weighing.specs.Weighing.{tag_refusal, pairs_full, push_refusal, attributes_refusal, end_refusal}
use Rattle.course.specs.Course.{kind_of, has_content, begin, resumed}
use Rattle.weighing.specs.Words.{no_ids}
use Rattle.accepting.specs.Accepting.{Answer, Outcome, outcome, reply, refusing, accepted}
use Rattle.tags.specs.Tags.{whole, begun, lowered, given}
use Rattle.making.specs.Making.{Made, Fresh, fresh_of, fresh_call}
use Rattle.ends.specs.Ends.{Popped, Ended, ended, popping, end_call}
use Rattle.starts.specs.Starts.{start_call}
use Rattle.resumes.specs.Resumes.{attributes_call}

-- If the answer is a refusal, the outcome is that refusal with no id, and the stores that came in; if attributes are asked for, no id goes out yet.
abbrev pub Kept : Stores → Outcome → Type 0
Kept s o = ((number : ℕ) → o.reply.answer ≡ Answer.Refused number → o ≡ refusing number s) × (o.reply.answer ≡ Answer.Attributes → o.reply.ids ≡ no_ids)

-- The same for an end tag: the rows and the buffer that came in (no other store is lent to be written).
abbrev pub EndKept : (rows out : List ℕ) → Ended → Type 0
EndKept rows out o = (number : ℕ) → o.answer ≡ Popped.Refused number → o ≡ ended (Popped.Refused number) rows out

-- A machine is made, or the instruction store and the rows are those that came in.
abbrev pub FreshKept : (program rows : List ℕ) → Fresh → Type 0
FreshKept program rows o = (o.made ≡ Made.Ready) ⊎ ((o.program ≡ program) × (o.rows ≡ rows))

-- ---- the answers apart

abbrev sort_of : Answer → ℕ
sort_of (Answer.Match content) = 0
sort_of Answer.Attributes = 1
sort_of (Answer.Refused number) = 2

abbrev number_of : Answer → ℕ
number_of (Answer.Refused number) = number
number_of (Answer.Match content) = 0
number_of Answer.Attributes = 0

other-sort : {a b : Answer} → (sort_of a ≡ sort_of b → ⊥) → a ≡ b → ⊥
other-sort n e = n (ap sort_of e)

matched-kept : (s after : Stores) (content : Bool) (ids : List ℕ) → Kept s (outcome (reply (Answer.Match content) ids) after)
matched-kept s after content ids = (λ number e. absurd (other-sort (λ z. omega arith) e), λ e. absurd (other-sort (λ z. omega arith) e))

asking-kept : (s after : Stores) → Kept s (outcome (reply Answer.Attributes no_ids) after)
asking-kept s after = (λ number e. absurd (other-sort (λ z. omega arith) e), λ e. refl)

refusing-kept : (number : ℕ) (s : Stores) → Kept s (refusing number s)
refusing-kept number s = (λ n e. ap (λ (k : ℕ). refusing k s) (ap number_of e), λ e. refl)

either-kept : (b : Bool) (s : Stores) (x y : Outcome) → Kept s x → Kept s y → Kept s (cond b x y)
either-kept true s x y p q = p
either-kept false s x y p q = q

module _ (sheet program : List ℕ) where
  whole-kept : (old s : Stores) (name : List ℕ) (content : Bool) (found : List ℕ) → Kept old (whole sheet program old s name content found)
  unfolding whole accepted
  whole-kept old s name content found =
      either-kept (not (eqb (push_refusal sheet program s.rows content found) 0)) old (refusing (push_refusal sheet program s.rows content found) old) (accepted sheet program s name content found)
      (refusing-kept (push_refusal sheet program s.rows content found) old) (matched-kept old _ content _)

  begun_kept : (s : Stores) (name : List ℕ) (kind : ℕ) (so : Sought) → Kept s (begun sheet program s name kind so)
  unfolding begun
  begun_kept s name kind (over found) = whole-kept s s name (has_content kind false) found
  begun_kept s name kind (stopped found c) = asking-kept s _

  lowered-kept : (s : Stores) (name : List ℕ) (kind : ℕ) → Kept s (lowered sheet program s name kind)
  unfolding lowered
  lowered-kept s name kind =
      either-kept (pairs_full s.rows s.names name) s (refusing 26 s) (begun sheet program s name kind (begin sheet program s.rows s.names s.nodes name kind))
      (refusing-kept 26 s) (begun_kept s name kind (begin sheet program s.rows s.names s.nodes name kind))

  given-kept : (s : Stores) (name : List ℕ) (self_closing : Bool) (input outlines : List ℕ) → Kept s (given sheet program s name self_closing input outlines)
  unfolding given
  given-kept s name self_closing input outlines = whole-kept s (released s) name (has_content (held_kind s.rows) self_closing) (resumed sheet program s.rows s.names s.nodes name input outlines)

  -- ---- the calls

  pub start-kept : (s : Stores) (namespace : ℕ) (name : List ℕ) → Kept s (start_call sheet program s namespace name)
  unfolding start_call
  start-kept s namespace name =
      let call = lowered sheet program s (map lower_of name) (kind_of namespace (void_name (esi_on s.rows) name)) in
      let tag = cond (not (eqb (tag_refusal s.rows namespace name) 0)) (refusing (tag_refusal s.rows namespace name) s) call in
      either-kept (not (eqb (state_refusal sheet program s) 0)) s (refusing (state_refusal sheet program s) s) tag (refusing-kept (state_refusal sheet program s) s)
      (either-kept (not (eqb (tag_refusal s.rows namespace name) 0)) s (refusing (tag_refusal s.rows namespace name) s) call (refusing-kept (tag_refusal s.rows namespace name) s) (lowered-kept s (map lower_of name) (kind_of namespace (void_name (esi_on s.rows) name))))

  pub attributes-kept : (s : Stores) (self_closing : Bool) (input outlines : List ℕ) → Kept s (attributes_call sheet program s self_closing input outlines)
  unfolding attributes_call
  attributes-kept s self_closing input outlines =
      let call = given sheet program s (held_name s.rows s.names) self_closing input outlines in
      let lent = cond (not (eqb (attributes_refusal s.rows input outlines) 0)) (refusing (attributes_refusal s.rows input outlines) s) call in
      either-kept (not (eqb (state_refusal sheet program s) 0)) s (refusing (state_refusal sheet program s) s) lent (refusing-kept (state_refusal sheet program s) s)
      (either-kept (not (eqb (attributes_refusal s.rows input outlines) 0)) s (refusing (attributes_refusal s.rows input outlines) s) call (refusing-kept (attributes_refusal s.rows input outlines) s) (given-kept s (held_name s.rows s.names) self_closing input outlines))

  -- ---- end tag

  abbrev end_number : Popped → ℕ
  end_number (Popped.Refused number) = number
  end_number (Popped.Elements n) = 0

  abbrev end_refused : Popped → Bool
  end_refused (Popped.Refused number) = true
  end_refused (Popped.Elements n) = false

  end-refusing : (number : ℕ) (rows out : List ℕ) → EndKept rows out (ended (Popped.Refused number) rows out)
  end-refusing number rows out n e = ap (λ (k : ℕ). ended (Popped.Refused k) rows out) (ap end_number e)

  end-either : (b : Bool) (rows out : List ℕ) (x y : Ended) → EndKept rows out x → EndKept rows out y → EndKept rows out (cond b x y)
  end-either true rows out x y p q = p
  end-either false rows out x y p q = q

  popping-kept : (rows ids out : List ℕ) (n : ℕ) → EndKept rows out (popping rows ids out n)
  unfolding popping
  popping-kept rows ids out n =
      end-either (ltb (length out) (n * id_words)) rows out (ended (Popped.Refused 29) rows out) (ended (Popped.Elements n) (popped_rows rows n) (popped_ids rows ids out n)) (end-refusing 29 rows out)
      (λ number e. absurd (subst T (sym (ap end_refused e)) tt))

  pub end_kept : (s : Stores) (name out : List ℕ) → EndKept s.rows out (end_call sheet program s name out)
  unfolding end_call
  end_kept s name out =
      let call = popping s.rows s.ids out (popped_count s.rows s.names (map lower_of name)) in
      let tag = cond (not (eqb (end_refusal s.rows name) 0)) (ended (Popped.Refused (end_refusal s.rows name)) s.rows out) call in
      end-either (not (eqb (state_refusal sheet program s) 0)) s.rows out (ended (Popped.Refused (state_refusal sheet program s)) s.rows out) tag (end-refusing (state_refusal sheet program s) s.rows out)
      (end-either (not (eqb (end_refusal s.rows name) 0)) s.rows out (ended (Popped.Refused (end_refusal s.rows name)) s.rows out) call (end-refusing (end_refusal s.rows name) s.rows out) (popping-kept s.rows s.ids out (popped_count s.rows s.names (map lower_of name))))

-- ---- making a machine

pub fresh_kept : (sheet : List ℕ) (esi : Bool) (program : List ℕ) (s : Stores) → FreshKept program s.rows (fresh_call sheet esi program s)
unfolding fresh_call fresh_of
fresh_kept sheet esi program s = go (not (sized s)) (compiled_of (parse_sheet sheet) program)
  where
    go : (b : Bool) (c : Judged Bool) → FreshKept program s.rows (cond b (record { made = Made.Refused 31; program = program; rows = s.rows }) (fresh_of sheet esi program s.rows c))
    go true c = inr (refl, refl)
    go false (Judged.Refused number place) = inr (refl, refl)
    go false (Judged.Good types) = inl refl
