-- The relation of nodes that match is W3C's matching of the selectors that lead to them.
use Rattle.std.specs.Prelude.{◌≡◌, refl, ◌↔◌, List, Bool}
use Rattle.std.proofs.Common.{ap, subst}
use Rattle.meaning.specs.Document.{Link, Spot}
use Rattle.meaning.specs.Selectors.{only, then, all_hold, Selects}
use Rattle.meaning.specs.Match.{Matches, Way, selector, TreeShaped, root, hangs, at_root, by}

-- ---- The two definitions agree. `compound` is the compound selector of a node, and its tests hold when all its simple selectors do.
module _ {N E S : Type 0} (roots : List N) (hung : Link → N → List N) (compound : N → List S) (simple : S → Spot E → Bool) where
  matching-selects : {n : N} {s : Spot E} → Matches roots hung (λ n s. all_hold simple (compound n) s) n s → (way : Way roots hung n) × Selects simple (selector roots hung compound way) s
  matching-selects (root h t) = (at_root h, t)
  matching-selects (hangs {r = r} l a m h t) = let (way, q) = matching-selects m in (by way l h, (t, (r, a, q)))

  selects-matching : {n : N} (way : Way roots hung n) {s : Spot E} → Selects simple (selector roots hung compound way) s → Matches roots hung (λ n s. all_hold simple (compound n) s) n s
  selects-matching (at_root h) t = root h t
  selects-matching (by way l h) (t, (r, a, q)) = hangs l a (selects-matching way q) h t

  -- A node matches an element exactly when the complex selector of a way that leads to it selects the element.
  pub matches-selects : (n : N) (s : Spot E) → Matches roots hung (λ n s. all_hold simple (compound n) s) n s ↔ ((way : Way roots hung n) × Selects simple (selector roots hung compound way) s)
  matches-selects n s = (matching-selects, λ (way, q). selects-matching way q)

  selectors-equal : TreeShaped roots hung → {n k : N} → n ≡ k → (v : Way roots hung n) (w : Way roots hung k) → selector roots hung compound v ≡ selector roots hung compound w
  selectors-equal g e (at_root h) (at_root h') = ap (λ n. only (compound n)) e
  selectors-equal g e (at_root h) (by w l h') = absurd (g.no_root w l h' (rw (← e) h))
  selectors-equal g e (by v l h) (at_root h') = absurd (g.no_root v l h (rw e h'))
  selectors-equal g e (by v l h) (by w j h') =
      let (p, q) = g.one_parent v w l j h (rw e h') in
      let ih = selectors-equal g q v w in
      λ i. then (ih i) (p i) (compound (e i))

  -- In trees one complex selector leads to a node, whichever way is taken; so a node matches exactly when it selects.
  pub one-selector : TreeShaped roots hung → {n : N} (v w : Way roots hung n) → selector roots hung compound v ≡ selector roots hung compound w
  one-selector g v w = selectors-equal g refl v w

  pub matches-selector : TreeShaped roots hung → {n : N} (way : Way roots hung n) (s : Spot E) → Matches roots hung (λ n s. all_hold simple (compound n) s) n s ↔ Selects simple (selector roots hung compound way) s
  matches-selector g way s = ((λ m. let (w, q) = matching-selects m in subst (λ x. Selects simple x s) (one-selector g w way) q), selects-matching way)
