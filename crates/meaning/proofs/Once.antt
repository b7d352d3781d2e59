-- Where nodes form trees, no node is live, matched or carried twice.
use Rattle.std.proofs.Common.{⊎_elim}
use Rattle.std.specs.Prelude.{List, [], ◌∷◌, Bool, eqb, ℕ}
use Rattle.meaning.specs.Lists.{◌∈◌, Distinct, keep, gather, full}
use Rattle.meaning.proofs.ListLaws.{mem-some, keep-mem, gather-mem, distinct-keep, distinct-cat, distinct-gather, join-mem, distinct-join}
use Rattle.meaning.specs.Document.{Link, child, descendant, links, Place, start, after, inside, Spot, spot}
use Rattle.meaning.specs.Match.{Way, at_root, by, TreeShaped}
use Rattle.meaning.specs.Machine.{live}
use Rattle.meaning.proofs.Carrying.{live-cases, past, into, bearers, hits}

abbrev link_number : Link → ℕ
link_number child = 0
link_number descendant = 1

abbrev same_link : Link → Link → Bool
same_link l m = eqb (link_number l) (link_number m)

distinct-links : Distinct links
distinct-links = ((λ h. mem-some (same_link child) (descendant ∷ []) h tt), ((λ h. mem-some (same_link descendant) [] h tt), tt))

module _ {E : Type 0} (roots : List ℕ) (hung : Link → ℕ → List ℕ) (trees : TreeShaped roots hung) (holds : ℕ → Spot E → Bool) where
  -- Nodes, each once, to which ways lead.
  abbrev pub Sound : List ℕ → Type 0
  Sound ns = Distinct ns × ((n : ℕ) → n ∈ ns → Way roots hung n)

  live-sound : (f : Link → List ℕ) → ((l : Link) → Sound (f l)) → Sound (live roots hung f)
  live-sound f s = (
    distinct-cat roots (gather (λ l. gather (hung l) (f l)) links) trees.roots_once
        (distinct-gather (λ l. gather (hung l) (f l)) links distinct-links
        (λ l _. distinct-gather (hung l) (f l) (s l).0 (λ m a. trees.hung_once ((s l).1 m a) l) (λ m k b a a' h h'. (trees.one_parent ((s l).1 m a) ((s l).1 k a') l l h h').1))
        (λ l j b _ _ h h'.
        let (m, a, x) = gather-mem (hung l) (f l) h in
        let (k, a', x') = gather-mem (hung j) (f j) h' in
        (trees.one_parent ((s l).1 m a) ((s j).1 k a') l j x x').0))
        (λ n a b.
        let (l, _, h) = gather-mem (λ l. gather (hung l) (f l)) links b in
        let (m, k, x) = gather-mem (hung l) (f l) h in
        trees.no_root ((s l).1 m k) l x a),
    λ n h. ⊎_elim at_root (λ (l, m, a, b). by ((s l).1 m a) l b) (live-cases roots hung f h),
  )

  keep-sound : (p : ℕ → Bool) (ns : List ℕ) → Sound ns → Sound (keep p ns)
  keep-sound p ns (d, g) = (distinct-keep p ns d, λ n h. g n (keep-mem p ns h).0)

  past-sound : (l : Link) (new old : List ℕ) → Sound new → Sound old → Sound (past l new old)
  past-sound child new old a b = b
  past-sound descendant new old a b = b

  into-sound : (l : Link) (new old : List ℕ) → Sound new → Sound old → Sound (into l new old)
  into-sound child new old a b = a
  into-sound descendant new old a b = (distinct-join new old a.0 b.0, λ m h. ⊎_elim (a.1 m) (b.1 m) (join-mem new old h))

  pub bearers-once : (c : Place E) (l : Link) → Sound (bearers roots hung holds c l)
  bearers-once start l = (tt, λ m h. elim h [ ])
  bearers-once (after c e) l = past-sound l _ _ (keep-sound (λ n. full (hung l n)) _ (keep-sound (λ n. holds n (spot c e)) _ (live-sound (bearers roots hung holds c) (bearers-once c)))) (bearers-once c l)
  bearers-once (inside c e) l = into-sound l _ _ (keep-sound (λ n. full (hung l n)) _ (keep-sound (λ n. holds n (spot c e)) _ (live-sound (bearers roots hung holds c) (bearers-once c)))) (bearers-once c l)

  -- No node is live twice at a place.
  pub live-once : (c : Place E) → Sound (live roots hung (bearers roots hung holds c))
  live-once c = live-sound (bearers roots hung holds c) (bearers-once c)

  -- No node matches an element twice.
  pub hits-once : (s : Spot E) → Sound (hits roots hung holds s)
  hits-once s = keep-sound (λ n. holds n s) _ (live-once s.at)
