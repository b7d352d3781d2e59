-- The rows and the layout say the same of every document: what is allowed over the one is allowed over the other.
use Rattle.std.specs.Prelude.{◌≡◌, refl, ◌&&◌, cond, List, ℕ, suc, T, length}
use Rattle.std.proofs.Common.{sym, ◌∙◌, ap, ap₂, subst}
use Rattle.node_records.specs.Records.{NodeRecord}
use Rattle.meaning.specs.Lists.{◌∈◌, Pairs, no_pair, pair, full, sum}
use Rattle.meaning.specs.Document.{Link, child, spot, before, opened, position}
use Rattle.meaning.specs.Trees.{Forest}
use Rattle.meaning.specs.Match.{Way, at_root, by, Matches}
use Rattle.meaning.specs.Elements.{Where, Placed, Tag, Given, Element, name_of, position_of_name, new_name, pairs}
use Rattle.meaning.specs.Calls.{Load, Call, Answer}
use Rattle.meaning.specs.Demand.{Moment, address_holds, Givers, Loads, StartRefusal, PushRefusal, Comes, refused_push, accepted, Does, start_refused, start_waits, start_whole, start_early, attributes_unasked, attributes_refused, attributes_whole, end_early, end_refused, end_pops, asked_top, asked_none, Goes, over, goes}
use Rattle.meaning.proofs.Following.{follows}
use Rattle.meaning.proofs.Shape.{Whole, way-whole}
use Rattle.meaning.proofs.Reading.{Reads}
use Rattle.meaning.proofs.Compiled.{compiled, compiled-reads}
use Rattle.demand.specs.Sheets.{Lent, lent_tests, sheet_program}
use Rattle.demand.specs.Statement.{refusing}
use Rattle.demand.specs.Rows.{Compiled, rows_program}

pairs-turn : {A B : Type 0} (R S : A → B → Type 0) → ((a : A) (b : B) → R a b → S a b) → {xs : List A} {ys : List B} → Pairs R xs ys → Pairs S xs ys
pairs-turn R S f no_pair = no_pair
pairs-turn R S f (pair {a = a} {b = b} r rs) = pair (f a b r) (pairs-turn R S f rs)

module _ (C : Compiled) (f : Forest NodeRecord) (r : Reads lent_tests f (rows_program C)) where
  q : Reads lent_tests f (compiled lent_tests f)
  q = compiled-reads lent_tests f

  abbrev W : ℕ → Type 0
  W a = Way (rows_program C).roots (rows_program C).hung a

  abbrev M₁ : ℕ → Placed Lent → Type 0
  M₁ n s = Matches (rows_program C).roots (rows_program C).hung (address_holds (rows_program C)) n s

  abbrev M₂ : ℕ → Placed Lent → Type 0
  M₂ n s = Matches (sheet_program f).roots (sheet_program f).hung (address_holds (sheet_program f)) n s

  there : (a : ℕ) → W a → Whole f (rows_program C).roots (rows_program C).hung r.roots r.hung a
  there a way = way-whole f (rows_program C).roots (rows_program C).hung r.roots r.hung a way

  roots-same : (rows_program C).roots ≡ (sheet_program f).roots
  roots-same = r.roots ∙ sym q.roots

  hung-same : (a : ℕ) → W a → (l : Link) → (rows_program C).hung l a ≡ (sheet_program f).hung l a
  hung-same a way l = let g = there a way in r.hung a g.instruction g.there_is l ∙ sym (q.hung a g.instruction g.there_is l)

  holds_same : (a : ℕ) → W a → (s : Placed Lent) → address_holds (rows_program C) a s ≡ address_holds (sheet_program f) a s
  holds_same a way s =
      let g = there a way in
      ap₂ (λ x y. x && y) (r.tag_tests a g.instruction g.there_is (position s.at) (position_of_name (name_of s) s.at) s.element.tag ∙ sym (q.tag_tests a g.instruction g.there_is (position s.at) (position_of_name (name_of s) s.at) s.element.tag))
      (r.attribute_tests a g.instruction g.there_is s.element.tag s.element.given.attributes ∙ sym (q.attribute_tests a g.instruction g.there_is s.element.tag s.element.given.attributes))

  to : (n : ℕ) (s : Placed Lent) → M₁ n s → (m : ℕ) × ((n ≡ m) × W n) × M₂ m s
  to = follows (λ a n. (a ≡ n) × W a) (rows_program C).roots (rows_program C).hung (address_holds (rows_program C)) (sheet_program f).roots (sheet_program f).hung (address_holds (sheet_program f))
      (λ a h. (a, subst (λ l. a ∈ l) roots-same h, (refl, at_root h)))
      (λ a n (e, way) l b h. (b, subst (λ k. b ∈ (sheet_program f).hung l k) e (subst (λ xs. b ∈ xs) (hung-same a way l) h), (refl, by way l h)))
      (λ a n (e, way) s t. subst T (holds_same a way s ∙ ap (λ k. address_holds (sheet_program f) k s) e) t)

  from : (n : ℕ) (s : Placed Lent) → M₂ n s → (m : ℕ) × ((n ≡ m) × W m) × M₁ m s
  from = follows (λ n a. (n ≡ a) × W a) (sheet_program f).roots (sheet_program f).hung (address_holds (sheet_program f)) (rows_program C).roots (rows_program C).hung (address_holds (rows_program C))
      (λ a h. let k = subst (λ l. a ∈ l) (sym roots-same) h in (a, k, (refl, at_root k)))
      (λ n a (e, way) l b h. let k = subst (λ xs. b ∈ xs) (ap ((sheet_program f).hung l) e ∙ sym (hung-same a way l)) h in (b, k, (refl, by way l k)))
      (λ n a (e, way) s t. subst T (ap (λ k. address_holds (sheet_program f) k s) e ∙ sym (holds_same a way s)) t)

  givers : (g : ℕ) (s : Placed Lent) → Givers (rows_program C) g s → Givers (sheet_program f) g s
  givers g s (ns, l, d, m) = (
    ns,
    l,
    d,
    λ n. (
      (λ h.
          let (x, t) = (m n).0 h in
          let (k, (e, way), y) = to n s x in
          (subst (λ j. M₂ j s) (sym e) y, subst (λ xs. T (full xs)) (hung-same n way child) t)),
      (λ (x, t).
          let (k, (e, way), y) = from n s x in
          (m n).1 (subst (λ j. M₁ j s) (sym e) y, subst (λ xs. T (full xs)) (sym (hung-same n (subst W (sym e) way) child)) t)),
    ),
  )

  types_same : (rows_program C).types_counted ≡ (sheet_program f).types_counted
  types_same = r.types ∙ sym q.types

  loads : (c : Where Lent) (t : Tag) (w : Load) → Loads (rows_program C) c t w → Loads (sheet_program f) c t w
  loads c t w (gs, ps, e) = (
    gs,
    pairs-turn (Givers (rows_program C)) (Givers (sheet_program f)) givers ps,
    e ∙ (λ i. record { children = length (before c); new_pair = types_same i && new_name t.name c; pairs = cond (types_same i) (pairs c) 0; opens = length (opened c); givers = sum gs }),
  )

  module _ (ghost : Where Lent → Tag → Given Lent) where
    start-turn : (c : Where Lent) (t : Tag) (n : ℕ) → StartRefusal lent_tests f (rows_program C) refusing ghost c t n → StartRefusal lent_tests f (sheet_program f) refusing ghost c t n
    start-turn c t n (w, l, e) = (w, loads c t w l, e)

    push-turn : (c : Where Lent) (e : Element Lent) (n : ℕ) → PushRefusal lent_tests f (rows_program C) refusing ghost c e n → PushRefusal lent_tests f (sheet_program f) refusing ghost c e n
    push-turn c e n (w, g, l, h, z) = (w, g, loads c e.tag w l, givers g (spot c e) h, z)

    comes-turn : (old : Moment Lent) (c : Where Lent) (e : Element Lent) (a : Answer (List ℕ)) (m : Moment Lent) → Comes lent_tests f (rows_program C) refusing ghost old c e a m → Comes lent_tests f (sheet_program f) refusing ghost old c e a m
    comes-turn old c e a m (refused_push {r = n} h) = refused_push (push-turn c e (suc n) h)
    comes-turn old c e a m (accepted h l) = accepted (push-turn c e 0 h) l

    does-turn : (m : Moment Lent) (x : Call Lent) (a : Answer (List ℕ)) (k : Moment Lent) → Does lent_tests f (rows_program C) refusing ghost m x a k → Does lent_tests f (sheet_program f) refusing ghost m x a k
    does-turn m x a k (start_refused {c = c} {t = t} {r = n} h) = start_refused (start-turn c t (suc n) h)
    does-turn m x a k (start_waits {c = c} {t = t} h w) = start_waits (start-turn c t 0 h) w
    does-turn m x a k (start_whole {c = c} {t = t} h w e) = start_whole (start-turn c t 0 h) w (comes-turn _ c _ a k e)
    does-turn m x a k start_early = start_early
    does-turn m x a k attributes_unasked = attributes_unasked
    does-turn m x a k (attributes_refused h) = attributes_refused h
    does-turn m x a k (attributes_whole {c = c} {t = t} h e) = attributes_whole h (comes-turn _ c _ a k e)
    does-turn m x a k end_early = end_early
    does-turn m x a k (end_refused h e) = end_refused h e
    does-turn m x a k (end_pops h e l) = end_pops h e l
    does-turn m x a k (asked_top h l) = asked_top h l
    does-turn m x a k (asked_none h) = asked_none h

    pub goes-turn : (m : Moment Lent) (xs : List (Call Lent)) (as' : List (Answer (List ℕ))) → Goes lent_tests f (rows_program C) refusing ghost m xs as' → Goes lent_tests f (sheet_program f) refusing ghost m xs as'
    goes-turn m xs as' over = over
    goes-turn m xs as' (goes {k = k} {x = x} {a = a} {xs = ys} {as' = bs} d g) = goes (does-turn m x a k d) (goes-turn k ys bs g)
