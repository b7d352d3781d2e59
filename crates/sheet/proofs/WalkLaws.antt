-- The walk over trees: each way out of one tree, and one turn of the loop over trees side by side.
use Prim.Native.Nat.{ℕ, zero, suc, ◌+◌, ◌-◌, ◌≤◌, ◌<◌}
use mathlib.Core.Path.{◌≡◌, refl, sym, ap}
use mathlib.Core.List.{List}
use native.Mathlib.Numerals.{sub-one, add-one}
use native.Mathlib.Omega.{arith}
use borrow.Author.Tests.{le-leb, lt-leb}
use Rattle.cells.specs.Numbers.{be16}
use Rattle.meaning.specs.Document.{by_link}
use Rattle.meaning.specs.Trees.{Forest, Node, size}
use Rattle.node_records.specs.Records.{NodeRecord, record_at, counts_at}
use Rattle.node_records.specs.Checks.{check_record, counts_of}
use Rattle.sheet.specs.Parser.{Parsed, and_then, after_step, tree_size, parse_tree, parse_many, tree_at, parse_trees, on, walk_of}
use Rattle.node_records.specs.declared.Links.{Links}
use Rattle.sheet.specs.declared.Walked.{Walked}
use Rattle.refusals.specs.Numbers.{Judged}

-- ---- from a forgotten answer back to what was read

module _ (s : List ℕ) (p : ℕ) where
  counts-refused : (r : Judged ℕ) (w q : ℕ) → Judged.Refused w q ≡ counts_of s p r → r ≡ Judged.Refused w q
  unfolding counts_of
  counts-refused (Judged.Refused w' q') w q e = cc
  counts-refused (Judged.Good n) w q e = cc

  counts-read : (r : Judged ℕ) (l : Links) → Judged.Good l ≡ counts_of s p r → (r ≡ Judged.Good l.next) × ((l.children ≡ be16 s (p + 2)) × (l.descendants ≡ be16 s (p + 4)))
  unfolding counts_of
  counts-read (Judged.Refused w q) l e = (cc, (cc, cc))
  counts-read (Judged.Good n) l e = (cc, (cc, cc))

next_of : Judged Walked → ℕ
next_of (Judged.Refused number place) = 0
next_of (Judged.Good here) = here.next

used_of : Judged Walked → ℕ
used_of (Judged.Refused number place) = 0
used_of (Judged.Good here) = here.used

module _ {A : Type 0} (nodes : A → ℕ) (used : ℕ) where
  pub walk_refused : (r : Parsed A) (w p : ℕ) → Judged.Refused w p ≡ walk_of nodes used r → r ≡ Parsed.refused w p
  unfolding walk_of
  walk_refused (Parsed.refused w' p') w p e = cc
  walk_refused (Parsed.read x n) w p e = cc

  -- an answer that is the same whatever was read
  pub walk-on : {X : Type 0} {B : Type 0} (r : Parsed A) (k : A → ℕ → Parsed B) (answer : Parsed B → X) (n u : ℕ) (v : X) → on n u ≡ walk_of nodes used r → ((x : A) → u ≡ used + nodes x → v ≡ answer (k x n)) → v ≡ answer (and_then r k)
  unfolding walk_of and_then next_of used_of
  walk-on (Parsed.refused w p) k answer n u v e f = cc
  walk-on (Parsed.read x n') k answer n u v e f = let a : n ≡ n' = ap next_of e in let b : u ≡ used + nodes x = ap used_of e in rw a at (f x b)

-- ---- trees side by side

planted : (t : Node NodeRecord) (used : ℕ) (r : Parsed (Forest NodeRecord)) → walk_of size (used + tree_size t) r ≡ walk_of size used (and_then r (λ siblings q. Parsed.read (Forest.tree t.says t.below siblings) q))
unfolding walk_of and_then size
planted t used (Parsed.refused w p) = refl
planted t used (Parsed.read f n) = ap (on n) (omega arith)

module _ (s : List ℕ) (total depth : ℕ) where
  pub trees-none : (n at used : ℕ) → n ≤ 0 → walk_of size used (parse_trees depth s total n at used) ≡ on at used
  unfolding walk_of parse_trees parse_many size
  trees-none zero at used h = ap (on at) (omega arith)
  trees-none (suc n) at used h = absurd (omega arith)

  pub trees-refused : (n at used : ℕ) → 0 < n → (w p : ℕ) → Judged.Refused w p ≡ walk_of tree_size used (tree_at depth s total at used) → Judged.Refused w p ≡ walk_of size used (parse_trees depth s total n at used)
  unfolding walk_of and_then parse_trees parse_many
  trees-refused zero at used h w p e = absurd (omega arith)
  trees-refused (suc n) at used h w p e = simp (walk_refused tree_size used (tree_at depth s total at used) w p e)

  pub trees-more : (n k at used : ℕ) → n ≡ k + 1 → (m u : ℕ) → on m u ≡ walk_of tree_size used (tree_at depth s total at used) → walk_of size used (parse_trees depth s total n at used) ≡ walk_of size u (parse_trees depth s total k m u)
  unfolding parse_trees parse_many
  trees-more n k at used h m u e =
      rw (h, add-one) (sym (walk-on tree_size used (tree_at depth s total at used) _ (walk_of size used) m u _ e
      (λ t f. rw f (planted t used (parse_many (tree_at depth s total) k m (used + tree_size t))))))

-- ---- one tree

-- one level down
level : (s : List ℕ) (total depth at used : ℕ) → 0 < depth → tree_at depth s total at used ≡ parse_tree (parse_trees (depth - 1) s total) s total at used
unfolding tree_at parse_trees
level s total zero at used h = absurd (omega arith)
level s total (suc d) at used h = rw sub-one refl

grown : (s : List ℕ) (at used : ℕ) (children : Forest NodeRecord) (r : Parsed (Forest NodeRecord)) → walk_of size (used + 1 + size children) r ≡ walk_of tree_size used (and_then r (λ descendants q. Parsed.read (record { says = record_at s at; below = by_link (λ _. Forest NodeRecord) children descendants }) q))
unfolding walk_of and_then
grown s at used children (Parsed.refused w p) = refl
grown s at used children (Parsed.read f n) = ap (on n) (omega arith)

module _ (s : List ℕ) (total depth at used : ℕ) where
  module _ (deep : 0 < depth) where
    module _ (room : used < total) where
      pub bad-record : (w p : ℕ) → Judged.Refused w p ≡ counts_of s (counts_at s at) (check_record s at) → Judged.Refused w p ≡ walk_of tree_size used (tree_at depth s total at used)
      unfolding walk_of parse_tree after_step
      bad-record w p e = simp (level s total depth at used deep, lt-leb _ _ room, counts-refused s (counts_at s at) (check_record s at) w p e)

      module _ {l : Links} (good : Judged.Good l ≡ counts_of s (counts_at s at) (check_record s at)) where
        pub bad-children : (w p : ℕ) → Judged.Refused w p ≡ walk_of size (used + 1) (parse_trees (depth - 1) s total l.children l.next (used + 1)) → Judged.Refused w p ≡ walk_of tree_size used (tree_at depth s total at used)
        unfolding walk_of parse_tree after_step and_then
        bad-children w p e =
            let (x, (y, z)) = counts-read s (counts_at s at) (check_record s at) l good in
            simp (level s total depth at used deep, lt-leb _ _ room, x, ← y, walk_refused size (used + 1) (parse_trees (depth - 1) s total l.children l.next (used + 1)) w p e)

        pub then-descendants : {p u : ℕ} → on p u ≡ walk_of size (used + 1) (parse_trees (depth - 1) s total l.children l.next (used + 1)) → walk_of size u (parse_trees (depth - 1) s total l.descendants p u) ≡ walk_of tree_size used (tree_at depth s total at used)
        unfolding parse_tree after_step
        then-descendants {p} {u} e =
            let (x, (y, z)) = counts-read s (counts_at s at) (check_record s at) l good in
            simp (level s total depth at used deep, lt-leb _ _ room, x, ← y, ← z)
            (walk-on size (used + 1) (parse_trees (depth - 1) s total l.children l.next (used + 1)) _ (walk_of tree_size used) p u _ e
            (λ children f. rw f (grown s at used children (parse_trees (depth - 1) s total l.descendants p (used + 1 + size children)))))
