-- A program that says at each address what the layout of a forest says there carries the forest. The layout itself is one; rows in a store are another.
use Rattle.std.specs.Prelude.{◌≡◌, refl, List, [], ◌∷◌, ◌++◌, Bool, true, false, ◌&&◌, ◌||◌, ℕ, suc, zero}
use Rattle.std.proofs.Common.{sym, ap₂, ◌∙◌}
use Rattle.std.proofs.Math.Logic.{⊎_elim}
use Rattle.std.proofs.Math.Option.{some}
use Rattle.std.proofs.lemmas.Bool.{false≢true}
use Rattle.meaning.specs.Lists as lists
use Rattle.meaning.specs.Lists.{◌∈◌, here, there, every, full, Pairs, no_pair, pair}
use Rattle.meaning.proofs.ListLaws.{∈-split}
use Rattle.meaning.specs.Document.{Link, child, descendant}
use Rattle.meaning.specs.Trees.{Forest, end, tree, Node, nodes, width, some_node}
use Rattle.meaning.specs.Layout.{Instruction, layout, block, below, begins, ends, fetch, Laid}
use Rattle.meaning.proofs.LayoutLaws.{layout-laid}
use Rattle.meaning.specs.Match.{Way, TreeShaped}
use Rattle.meaning.specs.Elements.{Tag}
use Rattle.meaning.specs.Tests.{Tests, of_type_tested}
use Rattle.meaning.specs.Calls.{Program}
use Rattle.meaning.specs.Carries.{Carries}
use Rattle.meaning.proofs.Spans.{span}
use Rattle.meaning.proofs.Shape.{way-whole, laid-shaped}

pub record Reads {A : Type 0} (Q : Tests A) (f : Forest Q.D) (P : Program A) : Type 0 where
  pub roots : P.roots ≡ span 0 (width f)
  pub hung : (a : ℕ) (i : Instruction Q.D) → fetch (layout 0 f) a ≡ some i → (l : Link) → P.hung l a ≡ span (i.range l).first (i.range l).count
  pub tag_tests : (a : ℕ) (i : Instruction Q.D) → fetch (layout 0 f) a ≡ some i → (j k : ℕ) (t : Tag) → P.tag_tests a j k t ≡ every (λ x. Q.tag_test x j k t) (Q.tag_tests i.says)
  pub attribute_tested : (a : ℕ) (i : Instruction Q.D) → fetch (layout 0 f) a ≡ some i → P.attribute_tested a ≡ full (Q.attribute_tests i.says)
  pub attribute_tests : (a : ℕ) (i : Instruction Q.D) → fetch (layout 0 f) a ≡ some i → (t : Tag) (g : A) → P.attribute_tests a t g ≡ every (λ x. Q.attribute_test x t g) (Q.attribute_tests i.says)
  pub ids : (a : ℕ) (i : Instruction Q.D) → fetch (layout 0 f) a ≡ some i → P.ids a ≡ Q.ids i.says
  pub types : P.types_counted ≡ some_node (of_type_tested Q) f

module _ {D : Type 0} (f : Forest D) where
  -- The address a holds the node n.
  pub record Holds (a : ℕ) (n : Node D) : Type 0 where
    pub instruction : Instruction D
    pub there_is : fetch (layout 0 f) a ≡ some instruction
    pub same : instruction.says ≡ n.says
    pub below : (l : Link) → ((instruction.range l).count ≡ width (n.below l)) × Laid (layout 0 f) (instruction.range l).first (n.below l)

  laid-pairs : (g : Forest D) (a : ℕ) → Laid (layout 0 f) a g → Pairs Holds (span a (width g)) (nodes g)
  unfolding Laid
  laid-pairs end a h = no_pair
  laid-pairs (tree d k g) a (i, e, s, ks, r) = pair (record { instruction = i; there_is = e; same = s; below = ks }) (laid-pairs g (suc a) r)

module _ {A : Type 0} (Q : Tests A) (f : Forest Q.D) (P : Program A) (reads : Reads Q f P) where
  pub reads-shaped : TreeShaped P.roots P.hung
  reads-shaped = laid-shaped f P.roots P.hung reads.roots reads.hung

  pub reads-carries : Carries Q f P
  reads-carries = record {
    Holds = Holds f;
    tree_shaped = reads-shaped;
    roots = rw reads.roots (laid-pairs f f 0 (layout-laid f));
    hangs = λ a n h l. rw (reads.hung a h.instruction h.there_is l, (h.below l).0) (laid-pairs f (n.below l) (h.instruction.range l).first (h.below l).1);
    tag_tests = λ a n h i j t. rw (← h.same) (reads.tag_tests a h.instruction h.there_is i j t);
    attribute_tested = λ a n h. rw (← h.same) (reads.attribute_tested a h.instruction h.there_is);
    attribute_tests = λ a n h t g. rw (← h.same) (reads.attribute_tests a h.instruction h.there_is t g);
    ids = λ a n h. rw (← h.same) (reads.ids a h.instruction h.there_is);
    types = reads.types;
  }

-- ---- What a maker of such a program needs: where no node of the forest has an nth-of-type test, no test looks at the position among those of the name.
fetch-mem : {X : Type 0} (xs : List X) (a : ℕ) (x : X) → fetch xs a ≡ some x → x ∈ xs
fetch-mem [] a x e = let q : false ≡ true = cc in absurd (false≢true q)
fetch-mem (y ∷ ys) zero x e = let q : x ≡ y = cc in here q
fetch-mem (y ∷ ys) (suc a) x e = there (fetch-mem ys a x e)

neither : (a b : Bool) → a || b ≡ false → (a ≡ false) × (b ≡ false)
neither true b e = absurd (false≢true (sym e))
neither false b e = (refl, e)

-- What no node of a forest says, no instruction of its layout says.
module _ {D : Type 0} (p : D → Bool) where
  block-says : (m : ℕ) (f : Forest D) (i : Instruction D) → some_node p f ≡ false → i ∈ block m f → p i.says ≡ false
  block-says m (tree d k f) i e (here q) = rw q (neither (p d) _ e).0
  block-says m (tree d k f) i e (there h) = block-says (ends m k) f i (neither (some_node p (k descendant)) _ (neither (some_node p (k child)) _ (neither (p d) _ e).1).1).1 h
  block-says m end i e x'' = elim x'' [ ]

  layout-step : (m : ℕ) (f : Forest D) (i : Instruction D) → some_node p f ≡ false → (i ∈ below m f → p i.says ≡ false) → i ∈ (block m f ++ below m f) → p i.says ≡ false
  layout-step m f i e ih h = ⊎_elim (block-says m f i e) ih (∈-split (block m f) h)

  below-says : (m : ℕ) (f : Forest D) (i : Instruction D) → some_node p f ≡ false → i ∈ below m f → p i.says ≡ false
  unfolding below
  below-says m (tree d k f) i e h =
      let (_, e₁) = neither (p d) _ e in
      let (e₂, e₃) = neither (some_node p (k child)) _ e₁ in
      let (e₄, e₅) = neither (some_node p (k descendant)) _ e₃ in
      ⊎_elim (layout-step _ (k child) i e₂ (below-says _ (k child) i e₂))
      (λ r. ⊎_elim (layout-step _ (k descendant) i e₄ (below-says _ (k descendant) i e₄)) (below-says (ends m k) f i e₅) (∈-split (layout (begins m k descendant) (k descendant)) r))
      (∈-split (layout (begins m k child) (k child)) h)
  below-says m end i e h = elim h [ ]

  layout-says : (f : Forest D) → some_node p f ≡ false → (a : ℕ) (i : Instruction D) → fetch (layout 0 f) a ≡ some i → p i.says ≡ false
  layout-says f e a i q = layout-step _ f i e (below-says _ f i e) (fetch-mem (layout 0 f) a i q)

module _ {A : Type 0} (Q : Tests A) (f : Forest Q.D) (roots : List ℕ) (hung : Link → ℕ → List ℕ) (tag_tests : ℕ → ℕ → ℕ → Tag → Bool)
    (roots-laid : roots ≡ span 0 (width f))
    (hung-laid : (a : ℕ) (i : Instruction Q.D) → fetch (layout 0 f) a ≡ some i → (l : Link) → hung l a ≡ span (i.range l).first (i.range l).count)
    (tests-laid : (a : ℕ) (i : Instruction Q.D) → fetch (layout 0 f) a ≡ some i → (j k : ℕ) (t : Tag) → tag_tests a j k t ≡ every (λ x. Q.tag_test x j k t) (Q.tag_tests i.says)) where
  untyped : (xs : List Q.TagTest) → lists.some Q.of_type xs ≡ false → (i j k : ℕ) (t : Tag) → every (λ x. Q.tag_test x i j t) xs ≡ every (λ x. Q.tag_test x i k t) xs
  untyped [] e i j k t = refl
  untyped (x ∷ xs) e i j k t = let (u, v) = neither (Q.of_type x) _ e in ap₂ (λ a b. a && b) (Q.not_of_type x u i j k t) (untyped xs v i j k t)

  pub laid-uncounted : some_node (of_type_tested Q) f ≡ false → (n : ℕ) → Way roots hung n → (i j k : ℕ) (t : Tag) → tag_tests n i j t ≡ tag_tests n i k t
  laid-uncounted e n way i j k t =
      let g = way-whole f roots hung roots-laid hung-laid n way in
      tests-laid n g.instruction g.there_is i j t
      ∙ untyped (Q.tag_tests g.instruction.says) (layout-says (of_type_tested Q) f e n g.instruction g.there_is) i j k t
      ∙ sym (tests-laid n g.instruction g.there_is i k t)
