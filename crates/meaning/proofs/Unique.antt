-- The statement of demand 3 determines the answers: no second list of answers goes with a run.
use Rattle.std.specs.Prelude.{◌≡◌, refl, List, [], ◌∷◌, reverse, Bool, false, true, length, ℕ, suc}
use Rattle.std.proofs.Common.{sym, ap, ap₂, subst, ◌∙◌, arith}
use Rattle.std.proofs.lemmas.Bool.{false≢true}
use Rattle.meaning.specs.Lists.{Pairs, no_pair, pair, sum}
use Rattle.meaning.proofs.ListLaws.{length-same, rising-same}
use Rattle.meaning.specs.Document.{spot, opened, closes}
use Rattle.meaning.specs.Trees.{Forest}
use Rattle.meaning.specs.Elements.{Where, Placed, Tag, Given, Element, element, has_content}
use Rattle.meaning.specs.Tests.{Tests}
use Rattle.meaning.specs.Calls.{Program, Load, Refusals, Call, Answer, matched, attributes_wanted, popped, top_ids, nothing_open, refused}
use Rattle.meaning.specs.Demand.{Moment, idle, waiting, Givers, load, Loads, Lists, StartRefusal, PushRefusal, Comes, refused_push, accepted, Does, start_refused, start_waits, start_whole, start_early, attributes_unasked, attributes_refused, attributes_whole, end_early, end_refused, end_pops, asked_top, asked_none, Goes, over, goes}
use Rattle.meaning.proofs.Names.{closes-one}

module _ {A : Type 0} (P : Program A) where
  givers-one : (s : Placed A) (g h : ℕ) → Givers P g s → Givers P h s → g ≡ h
  givers-one s g h (ns, e, d, u) (ms, e', d', v) = sym e ∙ length-same ns ms d d' (λ n. ((λ m. (v n).1 ((u n).0 m)), (λ m. (u n).1 ((v n).0 m)))) ∙ e'

  all-givers-one : (ss : List (Placed A)) (gs hs : List ℕ) → Pairs (Givers P) gs ss → Pairs (Givers P) hs ss → gs ≡ hs
  all-givers-one ss gs hs no_pair no_pair = refl
  all-givers-one (s ∷ ss) (g ∷ gs) (h ∷ hs) (pair a p) (pair b q) = ap₂ {C = List ℕ} (λ x y. x ∷ y) (givers-one s g h a b) (all-givers-one ss gs hs p q)
  all-givers-one (_ ∷ _) (_ ∷ _) [] (pair {b = b} {xs = xs} {ys = ys} a p) x5 = elim x5 [ ]

  pub loads-one : (c : Where A) (t : Tag) (w v : Load) → Loads P c t w → Loads P c t v → w ≡ v
  loads-one c t w v (gs, p, e) (hs, q, e') = e ∙ ap (λ l. load P c t (sum l)) (all-givers-one (opened c) gs hs p q) ∙ sym e'

  -- Two answers that say the same: alike but for how a set of ids is held.
  pub data Same : Answer P.Ids → Answer P.Ids → Type 0 where
    same_matched : {x y : P.Ids} {b : Bool} → P.list x ≡ P.list y → Same (matched x b) (matched y b)
    same_wanted : Same attributes_wanted attributes_wanted
    same_popped : {xs ys : List P.Ids} → Pairs (λ x y. P.list x ≡ P.list y) xs ys → Same (popped xs) (popped ys)
    same_top : {x y : P.Ids} → P.list x ≡ P.list y → Same (top_ids x) (top_ids y)
    same_nothing : Same nothing_open nothing_open
    same_refused : {r q : ℕ} → r ≡ q → Same (refused r) (refused q)

module _ {A : Type 0} (Q : Tests A) (f : Forest Q.D) (P : Program A) (R : Refusals A) (ghost : Where A → Tag → Given A) where
  lists-one : (s : Placed A) (x y : P.Ids) → Lists Q f P R ghost x s → Lists Q f P R ghost y s → P.list x ≡ P.list y
  lists-one s x y (r, u) (q, v) = rising-same (P.list x) (P.list y) r q (λ i. ((λ m. (v i).1 ((u i).0 m)), (λ m. (u i).1 ((v i).0 m))))

  all-lists-one : (ss : List (Placed A)) (xs ys : List P.Ids) → Pairs (Lists Q f P R ghost) xs ss → Pairs (Lists Q f P R ghost) ys ss → Pairs (λ x y. P.list x ≡ P.list y) xs ys
  all-lists-one ss xs ys no_pair no_pair = no_pair
  all-lists-one (s ∷ ss) (x ∷ xs) (y ∷ ys) (pair a p) (pair b q) = pair (lists-one s x y a b) (all-lists-one ss xs ys p q)
  all-lists-one (_ ∷ _) (_ ∷ _) [] (pair {b = b} {xs = xs} {ys = ys} a p) x5 = elim x5 [ ]

  start-one : (c : Where A) (t : Tag) (r q : ℕ) → StartRefusal Q f P R ghost c t r → StartRefusal Q f P R ghost c t q → r ≡ q
  start-one c t r q (w, l, e) (v, k, d) = sym e ∙ ap (λ z. R.at_start z t) (loads-one P c t w v l k) ∙ d

  push-one : (c : Where A) (e : Element A) (r q : ℕ) → PushRefusal Q f P R ghost c e r → PushRefusal Q f P R ghost c e q → r ≡ q
  push-one c e r q (w, g, l, m, z) (v, h, k, n, y) = sym z ∙ ap₂ (λ a b. R.at_push a (has_content e) b) (loads-one P c e.tag w v l k) (givers-one P (spot c e) g h m n) ∙ y

  -- The answers say the same, and the run stands at the same moment.
  abbrev Agree : Answer P.Ids → Moment A → Answer P.Ids → Moment A → Type 0
  Agree a m b k = Same P a b × (m ≡ k)

  not_none : {X : Type 0} (r : ℕ) → suc r ≡ 0 → X
  not_none r e = absurd (let z : ⊥ = omega arith in z)

  comes-one : (old : Moment A) (c : Where A) (e : Element A) (a b : Answer P.Ids) (m k : Moment A) → Comes Q f P R ghost old c e a m → Comes Q f P R ghost old c e b k → Agree a m b k
  comes-one old c e a b m k (refused_push {r = r} u) (refused_push {r = q} v) = (same_refused (push-one c e (suc r) (suc q) u v), refl)
  comes-one old c e a b m k (refused_push {r = r} u) (accepted v l) = not_none r (push-one c e (suc r) 0 u v)
  comes-one old c e a b m k (accepted u l) (refused_push {r = r} v) = not_none r (push-one c e (suc r) 0 v u)
  comes-one old c e a b m k (accepted {ids = x} u l) (accepted {ids = y} v j) = (same_matched (lists-one (spot c e) x y l j), refl)

  does-one : (m : Moment A) (x : Call A) (a b : Answer P.Ids) (k j : Moment A) → Does Q f P R ghost m x a k → Does Q f P R ghost m x b j → Agree a k b j
  does-one m x a b k j (start_refused {c = c} {t = t} {r = r} u) (start_refused {r = q} v) = (same_refused (start-one c t (suc r) (suc q) u v), refl)
  does-one m x a b k j (start_refused {c = c} {t = t} {r = r} u) (start_waits v w) = not_none r (start-one c t (suc r) 0 u v)
  does-one m x a b k j (start_refused {c = c} {t = t} {r = r} u) (start_whole v w h) = not_none r (start-one c t (suc r) 0 u v)
  does-one m x a b k j (start_waits {c = c} {t = t} u w) (start_refused {r = r} v) = not_none r (start-one c t (suc r) 0 v u)
  does-one m x a b k j (start_waits u w) (start_waits v w') = (same_wanted, refl)
  does-one m x a b k j (start_waits u w) (start_whole v n h) = absurd (n w)
  does-one m x a b k j (start_whole {c = c} {t = t} u n h) (start_refused {r = r} v) = not_none r (start-one c t (suc r) 0 v u)
  does-one m x a b k j (start_whole u n h) (start_waits v w) = absurd (n w)
  does-one m x a b k j (start_whole {c = c} {t = t} u n h) (start_whole v n' h') = comes-one (idle c) c (element t (ghost c t)) a b k j h h'
  does-one m x a b k j start_early start_early = (same_refused refl, refl)
  does-one m x a b k j attributes_unasked attributes_unasked = (same_refused refl, refl)
  does-one m x a b k j (attributes_refused e) (attributes_refused d) = (same_refused (sym e ∙ d), refl)
  does-one m x a b k j (attributes_refused {r = r} e) (attributes_whole d h) = not_none r (sym e ∙ d)
  does-one m x a b k j (attributes_whole e h) (attributes_refused {r = r} d) = not_none r (sym d ∙ e)
  does-one m x a b k j (attributes_whole {c = c} {t = t} {g = g} e h) (attributes_whole d h') = comes-one (waiting c t) c (element t g) a b k j h h'
  does-one m x a b k j end_early end_early = (same_refused refl, refl)
  does-one m x a b k j (end_refused {c = c} {x = n} {room = room} {ss = ss} p e) (end_refused {ss = rs} q d) = (same_refused (sym e ∙ ap (λ l. R.at_end n room (length l)) (closes-one n (opened c) ss rs p q) ∙ d), refl)
  does-one m x a b k j (end_refused {c = c} {x = n} {room = room} {r = r} {ss = ss} p e) (end_pops {ss = rs} q d l) = not_none r (sym e ∙ ap (λ l. R.at_end n room (length l)) (closes-one n (opened c) ss rs p q) ∙ d)
  does-one m x a b k j (end_pops {c = c} {x = n} {room = room} {ss = ss} p e l) (end_refused {r = r} {ss = rs} q d) = not_none r (sym d ∙ ap (λ l. R.at_end n room (length l)) (closes-one n (opened c) rs ss q p) ∙ e)
  does-one m x a b k j (end_pops {c = c} {x = n} {ss = ss} {ls = xs} p e l) (end_pops {ss = rs} {ls = ys} q d l') =
      let z = closes-one n (opened c) ss rs p q in
      (same_popped (all-lists-one (reverse rs) xs ys (subst (λ s. Pairs (Lists Q f P R ghost) xs (reverse s)) z l) l'), ap (λ s. idle (closes (length s) c)) z)
  does-one m x a b k j (asked_top {s = s} {ids = u} e l) (asked_top {s = r} {ids = v} d l') = let z : s ≡ r = cc in (same_top (lists-one r u v (subst (Lists Q f P R ghost u) z l) l'), refl)
  does-one m x a b k j (asked_top e l) (asked_none d) = let z : false ≡ true = cc in absurd (false≢true z)
  does-one m x a b k j (asked_none e) (asked_top d l) = let z : false ≡ true = cc in absurd (false≢true z)
  does-one m x a b k j (asked_none e) (asked_none d) = (same_nothing, refl)

  -- Only one list of answers goes with a run.
  pub one-run : (m : Moment A) (xs : List (Call A)) (as' bs : List (Answer P.Ids)) → Goes Q f P R ghost m xs as' → Goes Q f P R ghost m xs bs → Pairs (Same P) as' bs
  one-run m [] [] [] over over = no_pair
  one-run m (x ∷ xs) (a ∷ as') (b ∷ bs) (goes {k = k} d g) (goes {k = j} e h) = let (s, z) = does-one m x a b k j d e in pair s (one-run j xs as' bs (subst (λ n. Goes Q f P R ghost n xs as') z g) h)
  one-run m [] [] (b ∷ bs) _ x7 = elim x7 [ ]
  one-run m [] (a ∷ as') bs x5 _ = elim x5 [ ]
  one-run m (x ∷ xs) [] bs x6 _ = elim x6 [ ]
  one-run m (x ∷ xs) (a ∷ as') [] _ x10 = elim x10 [ ]

  -- A refused call leaves the run where it was.
  pub refused-stays : (m k : Moment A) (x : Call A) (r : ℕ) → Does Q f P R ghost m x (refused r) k → k ≡ m
  refused-stays m k x r (start_refused u) = refl
  refused-stays m k x r (start_whole u n (refused_push v)) = refl
  refused-stays m k x r start_early = refl
  refused-stays m k x r attributes_unasked = refl
  refused-stays m k x r (attributes_refused e) = refl
  refused-stays m k x r (attributes_whole e (refused_push v)) = refl
  refused-stays m k x r end_early = refl
  refused-stays m k x r (end_refused p e) = refl
