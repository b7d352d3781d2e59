-- DEMAND 3 over selector trees: how every run of calls on a fresh machine is answered. Nothing here knows how the machine works.
use Rattle.std.specs.Prelude.{◌≡◌, ◌↔◌, ◌⊎◌, List, [], ◌∷◌, reverse, Bool, not, ◌&&◌, cond, T, length, ℕ, suc}
use Rattle.meaning.specs.Lists.{◌∈◌, Distinct, Pairs, Rising, full, sum}
use Rattle.meaning.specs.Document.{child, start, spot, before, opened, position, enter, closes}
use Rattle.meaning.specs.Trees.{Forest, Node, nodes, hung}
use Rattle.meaning.specs.Match.{Matches, Live}
use Rattle.meaning.specs.Elements.{Where, Placed, Name, Tag, Given, Element, element, html, has_content, name_of, new_name, position_of_name, Closes, pairs}
use Rattle.meaning.specs.Tests.{Tests, holds, tag_holds}
use Rattle.meaning.specs.Calls.{Program, Load, Refusals, Call, start_tag, attributes, end_tag, ids_asked, Answer, matched, attributes_wanted, popped, top_ids, nothing_open, refused}
use Rattle.meaning.specs.Machine.{run, ready, empty}
use Rattle.meaning.specs.Carries.{Carries}

-- Where a run stands in its document: the next tag would come here; or this tag waits here for its attributes.
pub data Moment (A : Type 0) : Type 0 where
  idle : Where A → Moment A
  waiting : Where A → Tag → Moment A

abbrev pub place : {A : Type 0} → Moment A → Where A
place (idle c) = c
place (waiting c t) = c

module _ {A : Type 0} (P : Program A) where
  -- All tests of the node at an address hold for an element.
  abbrev pub address_holds : ℕ → Placed A → Bool
  address_holds n s = P.tag_tests n (position s.at) (position_of_name (name_of s) s.at) s.element.tag && P.attribute_tests n s.element.tag s.element.given.attributes

  -- So many nodes match an element and have child trees; they are counted by address, since two nodes may say the same.
  abbrev pub Givers : ℕ → Placed A → Type 0
  Givers g s = (ns : List ℕ) × (length ns ≡ g) × Distinct ns × ((n : ℕ) → (n ∈ ns) ↔ (Matches P.roots P.hung address_holds n s × T (full (P.hung child n))))

  -- What the limits of section 2 look at, said of the document, the givers being so many.
  abbrev pub load : Where A → Tag → ℕ → Load
  load c t givers = record { children = length (before c); new_pair = P.types_counted && new_name t.name c; pairs = cond P.types_counted (pairs c) 0; opens = length (opened c); givers = givers }

  abbrev pub Loads : Where A → Tag → Load → Type 0
  Loads c t w = (gs : List ℕ) × Pairs Givers gs (opened c) × (w ≡ load c t (sum gs))

module _ {A : Type 0} (Q : Tests A) (f : Forest Q.D) where
  -- An id is due for an element when a node that carries it matches the element.
  abbrev pub Due : Placed A → ℕ → Type 0
  Due s i = (n : Node Q.D) × Matches (nodes f) hung (λ m. holds Q m.says) n s × (i ∈ Q.ids n.says)

  -- A tag waits when it is SVG or MathML, or a live node passes all its tag tests and has an attribute test.
  abbrev pub Waits : Where A → Tag → Type 0
  Waits c t = T (not (html t)) ⊎ ((n : Node Q.D) × Live (nodes f) hung (λ m. holds Q m.says) n c × T (tag_holds Q n.says c t) × T (full (Q.attribute_tests n.says)))

  -- `ghost` gives a tag that is not made to wait its attributes: any at all.
  module _ (P : Program A) (R : Refusals A) (ghost : Where A → Tag → Given A) where
    -- The listed ids are those that are due, each once.
    abbrev pub Lists : P.Ids → Placed A → Type 0
    Lists ids s = Rising (P.list ids) × ((i : ℕ) → (i ∈ P.list ids) ↔ Due s i)

    -- The refusal of a start tag, and of an element that would now be accepted; 0 is none.
    abbrev pub StartRefusal : Where A → Tag → ℕ → Type 0
    StartRefusal c t r = (w : Load) × Loads P c t w × (R.at_start w t ≡ r)

    abbrev pub PushRefusal : Where A → Element A → ℕ → Type 0
    PushRefusal c e r = (w : Load) × (g : ℕ) × Loads P c e.tag w × Givers P g (spot c e) × (R.at_push w (has_content e) g ≡ r)

    -- An element comes whole to a place, where nothing refused it so far: it is refused, or its ids are listed and the document goes on.
    pub data Comes (old : Moment A) (c : Where A) (e : Element A) : Answer P.Ids → Moment A → Type 0 where
      refused_push : {r : ℕ} → PushRefusal c e (suc r) → Comes old c e (refused (suc r)) old
      accepted : {ids : P.Ids} → PushRefusal c e 0 → Lists ids (spot c e) → Comes old c e (matched ids (has_content e)) (idle (enter (has_content e) c e))

    -- One call, its answer, and where the run stands after it (01, sections 2 to 4).
    pub data Does : Moment A → Call A → Answer P.Ids → Moment A → Type 0 where
      -- A start tag: refused; made to wait; or whole at once, whatever its attributes are; and early while another waits.
      start_refused : {c : Where A} {t : Tag} {r : ℕ} → StartRefusal c t (suc r) → Does (idle c) (start_tag t) (refused (suc r)) (idle c)
      start_waits : {c : Where A} {t : Tag} → StartRefusal c t 0 → Waits c t → Does (idle c) (start_tag t) attributes_wanted (waiting c t)
      start_whole : {c : Where A} {t : Tag} {a : Answer P.Ids} {m : Moment A} → StartRefusal c t 0 → ¬ (Waits c t) → Comes (idle c) c (element t (ghost c t)) a m → Does (idle c) (start_tag t) a m
      start_early : {c : Where A} {t u : Tag} → Does (waiting c t) (start_tag u) (refused 22) (waiting c t)
      -- Attributes: none were asked for; refused; or the waiting tag is whole now, as if they had come with it.
      attributes_unasked : {c : Where A} {g : Given A} → Does (idle c) (attributes g) (refused 23) (idle c)
      attributes_refused : {c : Where A} {t : Tag} {g : Given A} {r : ℕ} → R.at_attributes g.attributes ≡ suc r → Does (waiting c t) (attributes g) (refused (suc r)) (waiting c t)
      attributes_whole : {c : Where A} {t : Tag} {g : Given A} {a : Answer P.Ids} {m : Moment A} → R.at_attributes g.attributes ≡ 0 → Comes (waiting c t) c (element t g) a m → Does (waiting c t) (attributes g) a m
      -- An end tag: early while a tag waits; refused; or the ids of what it closes, in opening order.
      end_early : {c : Where A} {t : Tag} {x : Name} {room : ℕ} → Does (waiting c t) (end_tag x room) (refused 22) (waiting c t)
      end_refused : {c : Where A} {x : Name} {room r : ℕ} {ss : List (Placed A)} → Closes x (opened c) ss → R.at_end x room (length ss) ≡ suc r → Does (idle c) (end_tag x room) (refused (suc r)) (idle c)
      end_pops : {c : Where A} {x : Name} {room : ℕ} {ss : List (Placed A)} {ls : List P.Ids} → Closes x (opened c) ss → R.at_end x room (length ss) ≡ 0 → Pairs Lists ls (reverse ss) → Does (idle c) (end_tag x room) (popped ls) (idle (closes (length ss) c))
      -- The id set asked: that of the innermost open element, also while a tag waits; or nothing is open.
      asked_top : {m : Moment A} {s : Placed A} {ss : List (Placed A)} {ids : P.Ids} → opened (place m) ≡ s ∷ ss → Lists ids s → Does m ids_asked (top_ids ids) m
      asked_none : {m : Moment A} → opened (place m) ≡ [] → Does m ids_asked nothing_open m

    -- A run of calls with their answers.
    pub data Goes : Moment A → List (Call A) → List (Answer P.Ids) → Type 0 where
      over : {m : Moment A} → Goes m [] []
      goes : {m k : Moment A} {x : Call A} {a : Answer P.Ids} {xs : List (Call A)} {as' : List (Answer P.Ids)} → Does m x a k → Goes k xs as' → Goes m (x ∷ xs) (a ∷ as')

-- THE DEMAND: for every program that carries the forest, whatever the limits, whatever attributes go unseen, and every list of calls. Proved in proofs/Theorem: `demand-3`.
abbrev pub Demand3 : Type 1
Demand3 =
    (A : Type 0) (Q : Tests A) (f : Forest Q.D) (P : Program A) → Carries Q f P → (R : Refusals A) (ghost : Where A → Tag → Given A) (xs : List (Call A))
    → Goes Q f P R ghost (idle start) xs (run P R (ready empty) xs)
