-- The nodes that match, as a list that is carried from place to place: it is the relation `Matches`.
use Rattle.std.specs.Prelude.{refl, ◌↔◌, ◌⊎◌, List, [], ◌∷◌, Bool, T, ℕ}
use Rattle.std.proofs.Common.{inl, inr, ⊎_elim}
use Rattle.meaning.specs.Lists.{◌∈◌, here, there, keep, gather, full}
use Rattle.meaning.proofs.ListLaws.{keep-mem, mem-keep, gather-mem, mem-gather, ∈-left, ∈-right, ∈-split, join, join-mem, mem-join-old, mem-join-new}
use Rattle.meaning.specs.Document.{Link, child, descendant, links, every-link, Place, start, after, inside, Spot, spot, reach}
use Rattle.meaning.specs.Match.{Matches, root, hangs, Live, Way, at_root, by}
use Rattle.meaning.specs.Machine.{bearing, live}

module _ (roots : List ℕ) (hung : Link → ℕ → List ℕ) where
  pub live-cases : (f : Link → List ℕ) {n : ℕ} → n ∈ live roots hung f → (n ∈ roots) ⊎ ((l : Link) × (m : ℕ) × (m ∈ f l) × (n ∈ hung l m))
  live-cases f {n} h = go (∈-split roots h)
    where
      go : (n ∈ roots) ⊎ (n ∈ gather (λ l. gather (hung l) (f l)) links) → (n ∈ roots) ⊎ ((l : Link) × (m : ℕ) × (m ∈ f l) × (n ∈ hung l m))
      go (inl a) = inl a
      go (inr a) =
          let (l, u, v) = gather-mem (λ l. gather (hung l) (f l)) links a in
          let (m, x, y) = gather-mem (hung l) (f l) v in
          inr (l, m, x, y)

  live-root : (f : Link → List ℕ) {n : ℕ} → n ∈ roots → n ∈ live roots hung f
  live-root f h = ∈-left roots (gather (λ l. gather (hung l) (f l)) links) h

  live-hung : (f : Link → List ℕ) (l : Link) {m n : ℕ} → m ∈ f l → n ∈ hung l m → n ∈ live roots hung f
  live-hung f l a b = ∈-right roots (mem-gather (λ k. gather (hung k) (f k)) links (every-link l) (mem-gather (hung l) (f l) a b))

-- What is carried past a closed element and into an open one, from what the element gives and what was carried to its place.
abbrev pub past : Link → List ℕ → List ℕ → List ℕ
past child new old = old
past descendant new old = old

abbrev pub into : Link → List ℕ → List ℕ → List ℕ
into child new old = new
into descendant new old = join new old

module _ {E : Type 0} (roots : List ℕ) (hung : Link → ℕ → List ℕ) (holds : ℕ → Spot E → Bool) where
  -- The nodes that are carried to a place for each link.
  abbrev pub bearers : Place E → Link → List ℕ
  bearers start l = []
  bearers (after c e) l = past l (bearing roots hung l (keep (λ n. holds n (spot c e)) (live roots hung (bearers c)))) (bearers c l)
  bearers (inside c e) l = into l (bearing roots hung l (keep (λ n. holds n (spot c e)) (live roots hung (bearers c)))) (bearers c l)

  -- The nodes that match an element.
  abbrev pub hits : Spot E → List ℕ
  hits s = keep (λ n. holds n s) (live roots hung (bearers s.at))

  abbrev M : ℕ → Spot E → Type 0
  M = Matches roots hung holds

  abbrev Behind : Place E → Link → ℕ → Type 0
  Behind c l m = (r : Spot E) × (r ∈ reach l c) × M m r

  hit-matches : (s : Spot E) → ((l : Link) (m : ℕ) → m ∈ bearers s.at l → Behind s.at l m) → {n : ℕ} → n ∈ hits s → M n s
  hit-matches s ih {n} h = let (a, t) = keep-mem (λ x. holds x s) (live roots hung (bearers s.at)) h in go t (live-cases roots hung (bearers s.at) a)
    where
      go : T (holds n s) → (n ∈ roots) ⊎ ((l : Link) × (m : ℕ) × (m ∈ bearers s.at l) × (n ∈ hung l m)) → M n s
      go t (inl m) = root m t
      go t (inr (l, m, a, b)) = let (r, u, v) = ih l m a in hangs l u v b t

  -- One step: what is carried past an element, or into it, matched an element that the link reaches.
  past-behind : (c : Place E) (e : E) (l : Link) (m : ℕ) (new old : List ℕ) → (m ∈ new → M m (spot c e)) → (m ∈ old → Behind c l m) → m ∈ past l new old → Behind (after c e) l m
  past-behind c e child m new old f g h = g h
  past-behind c e descendant m new old f g h = g h

  into-behind : (c : Place E) (e : E) (l : Link) (m : ℕ) (new old : List ℕ) → (m ∈ new → M m (spot c e)) → (m ∈ old → Behind c l m) → m ∈ into l new old → Behind (inside c e) l m
  into-behind c e child m new old f g h = (spot c e, here refl, f h)
  into-behind c e descendant m new old f g h = ⊎_elim (λ a. (spot c e, here refl, f a)) (λ a. let (r, u, v) = g a in (r, there u, v)) (join-mem new old h)

  pub bearers-behind : (c : Place E) (l : Link) (m : ℕ) → m ∈ bearers c l → Behind c l m
  bearers-behind (after c e) l m h = past-behind c e l m _ _ (λ a. hit-matches (spot c e) (bearers-behind c) (keep-mem (λ n. full (hung l n)) (hits (spot c e)) a).0) (bearers-behind c l m) h
  bearers-behind (inside c e) l m h = into-behind c e l m _ _ (λ a. hit-matches (spot c e) (bearers-behind c) (keep-mem (λ n. full (hung l n)) (hits (spot c e)) a).0) (bearers-behind c l m) h
  bearers-behind start l m h = elim h [ ]

  -- And what matched an element that a link reaches is carried, if it has trees for the link.
  behind-bearers : (c : Place E) (l : Link) {r : Spot E} {m : ℕ} → r ∈ reach l c → m ∈ hits r → T (full (hung l m)) → m ∈ bearers c l
  behind-bearers (after c e) child a h t = behind-bearers c child a h t
  behind-bearers (after c e) descendant a h t = behind-bearers c descendant a h t
  behind-bearers (inside c e) child (here q) h t = mem-keep (λ n. full (hung child n)) (hits (spot c e)) (rw q at h) t
  behind-bearers (inside c e) descendant (here q) h t = mem-join-new _ (bearers c descendant) (mem-keep (λ n. full (hung descendant n)) (hits (spot c e)) (rw q at h) t)
  behind-bearers (inside c e) descendant (there a) h t = mem-join-old (bearing roots hung descendant (hits (spot c e))) (bearers c descendant) (behind-bearers c descendant a h t)
  behind-bearers start l {r = r} {m = m} a h t = elim a [ ]
  behind-bearers (inside c e) child {r = r} {m = m} (there a) h t = elim a [ ]

  full-of : {n : ℕ} (xs : List ℕ) → n ∈ xs → T (full xs)
  full-of (x ∷ xs) h = tt
  full-of {n = n} [] h = elim h [ ]

  matches-hit : {n : ℕ} {s : Spot E} → M n s → n ∈ hits s
  matches-hit {s} (root m t) = mem-keep (λ x. holds x s) (live roots hung (bearers s.at)) (live-root roots hung (bearers s.at) m) t
  matches-hit {s} (hangs {m = m} l a b k t) =
      mem-keep (λ x. holds x s) (live roots hung (bearers s.at)) (live-hung roots hung (bearers s.at) l (behind-bearers s.at l a (matches-hit b) (full-of (hung l m) k)) k) t

  -- The list is the relation.
  pub hits-iff : (s : Spot E) (n : ℕ) → (n ∈ hits s) ↔ Matches roots hung holds n s
  hits-iff s n = (hit-matches s (bearers-behind s.at), matches-hit)

  -- And the live nodes are those of section 3.
  pub live-iff : (c : Place E) (n : ℕ) → (n ∈ live roots hung (bearers c)) ↔ Live roots hung holds n c
  live-iff c n = (λ h. to (live-cases roots hung (bearers c) h), from)
    where
      to : (n ∈ roots) ⊎ ((l : Link) × (m : ℕ) × (m ∈ bearers c l) × (n ∈ hung l m)) → Live roots hung holds n c
      to (inl a) = inl a
      to (inr (l, m, a, b)) = let (r, u, v) = bearers-behind c l m a in inr (l, m, r, u, v, b)

      from : Live roots hung holds n c → n ∈ live roots hung (bearers c)
      from (inl a) = live-root roots hung (bearers c) a
      from (inr (l, m, r, u, v, b)) = live-hung roots hung (bearers c) l (behind-bearers c l u (matches-hit v) (full-of (hung l m) b)) b

  matches-way : {n : ℕ} {s : Spot E} → Matches roots hung holds n s → Way roots hung n
  matches-way (root h t) = at_root h
  matches-way (hangs l a m h t) = by (matches-way m) l h

  -- A way leads to every live node.
  pub live-way : (c : Place E) (n : ℕ) → n ∈ live roots hung (bearers c) → Way roots hung n
  live-way c n h = go ((live-iff c n).0 h)
    where
      go : Live roots hung holds n c → Way roots hung n
      go (inl a) = at_root a
      go (inr (l, m, r, u, v, b)) = by (matches-way v) l b
