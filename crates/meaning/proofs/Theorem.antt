-- Demand 3 is proved: what the document says to each call is what the statement allows.
use Rattle.std.specs.Prelude.{◌≡◌, refl, ◌↔◌, ◌⊎◌, List, [], ◌∷◌, map, reverse, Bool, true, false, not, ◌&&◌, ◌||◌, cond, T, take, length, ℕ, zero, suc}
use Rattle.std.proofs.Common.{sym, ap, ap₂, subst, ◌∙◌, inl, inr}
use Rattle.meaning.specs.Lists.{◌∈◌, every, some, full}
use Rattle.meaning.proofs.ListLaws.{some-mem, mem-some, gather-mem, mem-gather, every-cat, every_map, pair-right, pair_left, pairs-map, pairs-take, pairs-reverse}
use Rattle.meaning.specs.Document.{start, spot, opened, position, closes}
use Rattle.meaning.specs.Trees.{Forest, Node, nodes, hung}
use Rattle.meaning.specs.Match.{Matches, Live, Way, selector}
use Rattle.meaning.proofs.MatchLaws.{matches-selects}
use Rattle.meaning.specs.Selectors.{Selects}
use Rattle.meaning.specs.Elements.{Where, Placed, Name, Tag, Given, Element, element, html, name_of, position_of_name, Closes}
use Rattle.meaning.specs.Tests.{Tests, on_tag, on_attributes, simple, compound, holds, tag_holds}
use Rattle.meaning.specs.Calls.{Program, Refusals, Call, start_tag, attributes, end_tag, ids_asked, attributes_wanted, popped}
use Rattle.meaning.specs.Machine.{nearest, first, weigh}
use Rattle.meaning.specs.Carries.{Carries}
use Rattle.meaning.specs.Demand.{Moment, idle, waiting, place, address_holds, Due, Waits, Lists, StartRefusal, PushRefusal, Comes, refused_push, accepted, Does, start_refused, start_waits, start_whole, start_early, attributes_unasked, attributes_refused, attributes_whole, end_early, end_refused, end_pops, asked_top, asked_none, Goes, over, goes, Demand3}
use Rattle.meaning.proofs.Carrying.{hits-iff, live-iff}
use Rattle.meaning.proofs.Names.{nearest-closes, nearest-length}
use Rattle.meaning.proofs.Answering.{tag_ok, hits_of, live_of, must_wait, stack_of, top_said, comes_if, starts_if, ends_if, push_said, said, due, faithful}
use Rattle.meaning.proofs.Loading.{gives, loads}
use Rattle.meaning.proofs.Following.{follows, follows-live}

module _ {A : Type 0} (Q : Tests A) (f : Forest Q.D) (P : Program A) (C : Carries Q f P) where
  open C use {Holds}

  -- The tests at an address are those of the node that it holds.
  tests-split : (d : Q.D) (s : Placed A) → holds Q d s ≡ tag_holds Q d s.at s.element.tag && every (λ x. Q.attribute_test x s.element.tag s.element.given.attributes) (Q.attribute_tests d)
  tests-split d s = every-cat (λ x. simple Q x s) (map on_tag (Q.tag_tests d)) (map on_attributes (Q.attribute_tests d)) ∙ ap₂ (λ a b. a && b) (every_map (λ x. simple Q x s) on_tag (Q.tag_tests d)) (every_map (λ x. simple Q x s) on_attributes (Q.attribute_tests d))

  tests-held : (a : ℕ) (n : Node Q.D) → Holds a n → (s : Placed A) → address_holds P a s ≡ holds Q n.says s
  tests-held a n h s = ap₂ (λ a b. a && b) (C.tag_tests a n h _ _ _) (C.attribute_tests a n h _ _) ∙ sym (tests-split n.says s)

  node_of : (a : ℕ) (s : Placed A) → Matches P.roots P.hung (address_holds P) a s → (n : Node Q.D) × Holds a n × Matches (nodes f) hung (λ m. holds Q m.says) n s
  node_of = follows Holds P.roots P.hung (address_holds P) (nodes f) hung (λ m. holds Q m.says)
      (pair-right C.roots) (λ a n h l. pair-right (C.hangs a n h l)) (λ a n h s t. rw (← tests-held a n h s) t)

  address-of : (n : Node Q.D) (s : Placed A) → Matches (nodes f) hung (λ m. holds Q m.says) n s → (a : ℕ) × Holds a n × Matches P.roots P.hung (address_holds P) a s
  address-of = follows (λ n a. Holds a n) (nodes f) hung (λ m. holds Q m.says) P.roots P.hung (address_holds P)
      (pair_left C.roots) (λ n a h l. pair_left (C.hangs a n h l)) (λ n a h s t. rw (tests-held a n h s) t)

  live-node : (a : ℕ) (c : Where A) → Live P.roots P.hung (address_holds P) a c → (n : Node Q.D) × Holds a n × Live (nodes f) hung (λ m. holds Q m.says) n c
  live-node = follows-live Holds P.roots P.hung (address_holds P) (nodes f) hung (λ m. holds Q m.says)
      (pair-right C.roots) (λ a n h l. pair-right (C.hangs a n h l)) (λ a n h s t. rw (← tests-held a n h s) t)

  live-address : (n : Node Q.D) (c : Where A) → Live (nodes f) hung (λ m. holds Q m.says) n c → (a : ℕ) × Holds a n × Live P.roots P.hung (address_holds P) a c
  live-address = follows-live (λ n a. Holds a n) (nodes f) hung (λ m. holds Q m.says) P.roots P.hung (address_holds P)
      (pair_left C.roots) (λ n a h l. pair_left (C.hangs a n h l)) (λ n a h s t. rw (tests-held a n h s) t)

  -- The ids of the nodes that match are those that are due.
  due-ids : (s : Placed A) (i : ℕ) → (i ∈ P.list (P.unite (hits_of P s))) ↔ Due Q f s i
  due-ids s i = (
    (λ h.
        let (a, m, k) = gather-mem P.ids (hits_of P s) ((P.united (hits_of P s) i).0 h) in
        let (n, h, q) = node_of a s ((hits-iff P.roots P.hung (address_holds P) s a).0 m) in
        (n, q, rw (← C.ids a n h) k)),
    (λ (n, m, k).
        let (a, h, q) = address-of n s m in
        (P.united (hits_of P s) i).1 (mem-gather P.ids (hits_of P s) ((hits-iff P.roots P.hung (address_holds P) s a).1 q) (rw (C.ids a n h) k))),
  )

  -- A tag is made to wait exactly when section 4 says.
  both : (a b : Bool) → T a → T b → T (a && b)
  both true b s t = t
  both false b s t = absurd s

  parts : (a b : Bool) → T (a && b) → T a × T b
  parts true b t = (tt, t)
  parts false b t = absurd t

  must-waits : (c : Where A) (t : Tag) → T (must_wait P c t) → Waits Q f c t
  must-waits c t h = go (not (html t)) h
    where
      go : (b : Bool) → T (b || some (λ n. tag_ok P c t n && P.attribute_tested n) (live_of P c)) → T b ⊎ ((n : Node Q.D) × Live (nodes f) hung (λ m. holds Q m.says) n c × T (tag_holds Q n.says c t) × T (full (Q.attribute_tests n.says)))
      go true h = inl tt
      go false h =
          let (a, m, p) = some-mem (λ n. tag_ok P c t n && P.attribute_tested n) (live_of P c) h in
          let (u, v) = parts (tag_ok P c t a) (P.attribute_tested a) p in
          let (n, q, l) = live-node a c ((live-iff P.roots P.hung (address_holds P) c a).0 m) in
          inr (n, l, rw (← C.tag_tests a n q (position c) (position_of_name t.name c) t) u, rw (← C.attribute_tested a n q) v)

  waits-must : (c : Where A) (t : Tag) → Waits Q f c t → T (must_wait P c t)
  waits-must c t (inl h) = go (not (html t)) h
    where
      go : (b : Bool) → T b → T (b || some (λ n. tag_ok P c t n && P.attribute_tested n) (live_of P c))
      go true h = tt
      go false h = absurd h
  waits-must c t (inr (n, l, u, v)) =
      let (a, q, m) = live-address n c l in
      go (not (html t)) (mem-some (λ n. tag_ok P c t n && P.attribute_tested n) (live_of P c) ((live-iff P.roots P.hung (address_holds P) c a).1 m)
      (both (tag_ok P c t a) (P.attribute_tested a) (rw (C.tag_tests a n q (position c) (position_of_name t.name c) t) u) (rw (C.attribute_tested a n q) v)))
    where
      go : (b : Bool) → T (some (λ n. tag_ok P c t n && P.attribute_tested n) (live_of P c)) → T (b || some (λ n. tag_ok P c t n && P.attribute_tested n) (live_of P c))
      go true h = tt
      go false h = h

  module _ (R : Refusals A) (ghost : Where A → Tag → Given A) where
    lists-due : (s : Placed A) → Lists Q f P R ghost (P.unite (hits_of P s)) s
    lists-due s = (P.rising (P.unite (hits_of P s)), due-ids s)

    push-refusal-said : (c : Where A) (e : Element A) → PushRefusal Q f P R ghost c e (push_said P R ghost c e)
    push-refusal-said c e = (weigh P (stack_of P c) e.tag, _, loads P C.tree_shaped c e.tag, gives P C.tree_shaped (spot c e), refl)

    comes : (old : Moment A) (c : Where A) (e : Element A) (r : ℕ) → push_said P R ghost c e ≡ r → Comes Q f P R ghost old c e (comes_if P R ghost r old c e).0 (comes_if P R ghost r old c e).1
    comes old c e zero z = accepted (rw z at (push-refusal-said c e)) (lists-due (spot c e))
    comes old c e (suc r) z = refused_push (rw z at (push-refusal-said c e))

    starts : (c : Where A) (t : Tag) (r : ℕ) → R.at_start (weigh P (stack_of P c) t) t ≡ r → Does Q f P R ghost (idle c) (start_tag t) (starts_if P R ghost r c t).0 (starts_if P R ghost r c t).1
    starts c t zero z = go (must_wait P c t) refl
      where
        e : Element A
        e = element t (ghost c t)

        free : StartRefusal Q f P R ghost c t 0
        free = (weigh P (stack_of P c) t, loads P C.tree_shaped c t, z)

        go : (b : Bool) → must_wait P c t ≡ b → Does Q f P R ghost (idle c) (start_tag t) (cond b (attributes_wanted, waiting c t) (comes_if P R ghost (push_said P R ghost c e) (idle c) c e)).0 (cond b (attributes_wanted, waiting c t) (comes_if P R ghost (push_said P R ghost c e) (idle c) c e)).1
        go true q = start_waits free (must-waits c t (rw q tt))
        go false q = start_whole free (λ w. rw q at (waits-must c t w)) (comes (idle c) c e (push_said P R ghost c e) refl)
    starts c t (suc r) z = start_refused (weigh P (stack_of P c) t, loads P C.tree_shaped c t, z)

    resumes : (c : Where A) (t : Tag) (g : Given A) (r : ℕ) → R.at_attributes g.attributes ≡ r
        → Does Q f P R ghost (waiting c t) (attributes g) (comes_if P R ghost (first r (push_said P R ghost c (element t g))) (waiting c t) c (element t g)).0 (comes_if P R ghost (first r (push_said P R ghost c (element t g))) (waiting c t) c (element t g)).1
    resumes c t g zero z = attributes_whole z (comes (waiting c t) c (element t g) (push_said P R ghost c (element t g)) refl)
    resumes c t g (suc r) z = attributes_refused z

    ends : (c : Where A) (x : Name) (room n : ℕ) → Closes x (opened c) (take n (opened c)) → length (take n (opened c)) ≡ n → (r : ℕ) → R.at_end x room n ≡ r → Does Q f P R ghost (idle c) (end_tag x room) (ends_if P R ghost r c n).0 (ends_if P R ghost r c n).1
    ends c x room n h e zero z =
        subst (λ (k : ℕ). Does Q f P R ghost (idle c) (end_tag x room) (popped (reverse (take n (map (λ s. P.unite (hits_of P s)) (opened c))))) (idle (closes k c))) e
        (end_pops h (ap (R.at_end x room) e ∙ z) (pairs-reverse (pairs-take n (pairs-map (λ s. P.unite (hits_of P s)) lists-due (opened c)))))
    ends c x room n h e (suc r) z = end_refused h (ap (R.at_end x room) e ∙ z)

    asked : (m : Moment A) (ss : List (Placed A)) → opened (place m) ≡ ss → Does Q f P R ghost m ids_asked (top_said P ss) m
    asked m [] e = asked_none e
    asked m (s ∷ ss) e = asked_top e (lists-due s)

    said-does : (m : Moment A) (x : Call A) → Does Q f P R ghost m x (said P R ghost m x).0 (said P R ghost m x).1
    said-does (idle c) (start_tag t) = starts c t (R.at_start (weigh P (stack_of P c) t) t) refl
    said-does (idle c) (attributes g) = attributes_unasked
    said-does (idle c) (end_tag x room) = ends c x room (nearest x (map name_of (opened c))) (nearest-closes x (opened c)) (nearest-length x (opened c)) (R.at_end x room (nearest x (map name_of (opened c)))) refl
    said-does (idle c) ids_asked = asked (idle c) (opened c) refl
    said-does (waiting c t) (start_tag u) = start_early
    said-does (waiting c t) (attributes g) = resumes c t g (R.at_attributes g.attributes) refl
    said-does (waiting c t) (end_tag x room) = end_early
    said-does (waiting c t) ids_asked = asked (waiting c t) (opened c) refl

    due-goes : (m : Moment A) (xs : List (Call A)) → Goes Q f P R ghost m xs (due P R ghost m xs)
    due-goes m [] = over
    due-goes m (x ∷ xs) = goes (said-does m x) (due-goes (said P R ghost m x).1 xs)

pub demand-3 : Demand3
demand-3 A Q f P C R ghost xs = rw (faithful P R ghost xs) (due-goes Q f P C R ghost (idle start) xs)

-- In W3C's words: an id is due exactly when a complex selector that leads to a node which carries it selects the element.
pub due-selected : {A : Type 0} (Q : Tests A) (f : Forest Q.D) (s : Placed A) (i : ℕ)
    → Due Q f s i ↔ ((n : Node Q.D) × ((way : Way (nodes f) hung n) × Selects (simple Q) (selector (nodes f) hung (λ m. compound Q m.says) way) s) × (i ∈ Q.ids n.says))
due-selected Q f s i = (
  (λ (n, m, h). (n, (matches-selects (nodes f) hung (λ m. compound Q m.says) (simple Q) n s).0 m, h)),
  (λ (n, m, h). (n, (matches-selects (nodes f) hung (λ m. compound Q m.says) (simple Q) n s).1 m, h)),
)
