-- The layout of a forest as a program: the machine over it answers as demanded, and one complex selector leads to each of its nodes.
use Rattle.std.specs.Prelude.{◌≡◌, refl, ◌↔◌, List, [], ◌∷◌, Bool, true, false, ℕ, ◌<◌}
use Rattle.std.proofs.Common.{sym}
use Rattle.std.proofs.Math.Option.{none, some, Option}
use Rattle.std.proofs.lemmas.Bool.{false≢true}
use Rattle.meaning.specs.Lists.{every, gather, full}
use Rattle.meaning.specs.Document.{Link, start}
use Rattle.meaning.specs.Trees.{Forest, width, size, some_node}
use Rattle.meaning.specs.Layout.{Instruction, layout, fetch}
use Rattle.meaning.specs.Selectors.{all_hold, Selects}
use Rattle.meaning.specs.Match.{Way, Matches, selector}
use Rattle.meaning.proofs.MatchLaws.{matches-selector}
use Rattle.meaning.specs.Elements.{Where, Placed, Tag, Given}
use Rattle.meaning.specs.Tests.{Tests, of_type_tested, Simple, simple, compound}
use Rattle.meaning.specs.Calls.{Program, Refusals, Call}
use Rattle.meaning.specs.Carries.{Carries}
use Rattle.meaning.specs.Machine.{run, ready, empty}
use Rattle.meaning.specs.Demand.{idle, Goes}
use Rattle.meaning.proofs.Theorem.{demand-3}
use Rattle.meaning.proofs.Spans.{span}
use Rattle.meaning.proofs.Sorted.{sorted, sorted-rising, sorted-mem}
use Rattle.meaning.proofs.Shape.{every_way}
use Rattle.meaning.proofs.Reading.{Reads, reads-shaped, reads-carries, laid-uncounted}

-- What an instruction says, if there is one.
abbrev pub on : {D X : Type 0} → Option (Instruction D) → X → (Instruction D → X) → X
on none x f = x
on (some i) x f = f i

full-none : {X : Type 0} (p : X → Bool) (xs : List X) → full xs ≡ false → every p xs ≡ true
full-none p [] e = refl
full-none p (x ∷ xs) e = absurd (false≢true (sym e))

module _ {A : Type 0} (Q : Tests A) (f : Forest Q.D) where
  abbrev pub at : {X : Type 0} → ℕ → X → (Q.D → X) → X
  at a x g = on (fetch (layout 0 f) a) x (λ i. g i.says)

  abbrev pub hung_at : Link → ℕ → List ℕ
  hung_at l a = on (fetch (layout 0 f) a) [] (λ i. span (i.range l).first (i.range l).count)

  abbrev pub tag_tests_at : ℕ → ℕ → ℕ → Tag → Bool
  tag_tests_at a i j t = at a false (λ d. every (λ x. Q.tag_test x i j t) (Q.tag_tests d))

  pub untested-at : (a : ℕ) → at a false (λ d. full (Q.attribute_tests d)) ≡ false → (t : Tag) (g : A) → at a true (λ d. every (λ x. Q.attribute_test x t g) (Q.attribute_tests d)) ≡ true
  untested-at a e t g = go (fetch (layout 0 f) a) e
    where
      go : (o : Option (Instruction Q.D)) → on o false (λ x. full (Q.attribute_tests x.says)) ≡ false → on o true (λ x. every (λ y. Q.attribute_test y t g) (Q.attribute_tests x.says)) ≡ true
      go none e = refl
      go (some x) e = full-none (λ y. Q.attribute_test y t g) (Q.attribute_tests x.says) e

  abbrev pub compiled : Program A
  compiled = record {
    roots = span 0 (width f);
    hung = hung_at;
    tag_tests = tag_tests_at;
    attribute_tested = λ a. at a false (λ d. full (Q.attribute_tests d));
    attribute_tests = λ a t g. at a true (λ d. every (λ x. Q.attribute_test x t g) (Q.attribute_tests d));
    untested = untested-at;
    types_counted = some_node (of_type_tested Q) f;
    uncounted = laid-uncounted Q f (span 0 (width f)) hung_at tag_tests_at refl (λ a i e l. rw e) (λ a i e j k t. rw e);
    ids = λ a. at a [] Q.ids;
    Ids = List ℕ;
    unite = gather (λ a. at a [] Q.ids);
    list = sorted;
    rising = sorted-rising;
    united = λ ns i. sorted-mem (gather (λ a. at a [] Q.ids) ns) i;
  }

  pub compiled-reads : Reads Q f compiled
  compiled-reads = record {
    roots = refl;
    hung = λ a i e l. rw e;
    tag_tests = λ a i e j k t. rw e;
    attribute_tested = λ a i e. rw e;
    attribute_tests = λ a i e t g. rw e;
    ids = λ a i e. rw e;
    types = refl;
  }

  -- The layout carries its forest.
  pub compiled-carries : Carries Q f compiled
  compiled-carries = reads-carries Q f compiled compiled-reads

  -- Demand 3 for the machine over the layout.
  pub compiled-answers : (R : Refusals A) (ghost : Where A → Tag → Given A) (xs : List (Call A)) → Goes Q f compiled R ghost (idle start) xs (run compiled R (ready empty) xs)
  compiled-answers R ghost xs = demand-3 A Q f compiled compiled-carries R ghost xs

  -- The compound selector of the node at an address.
  abbrev pub compound_at : ℕ → List (Simple Q)
  compound_at a = at a [] (compound Q)

  -- To each node of a forest one complex selector leads, and the node matches an element exactly when that selects it.
  pub node-selector : (a : ℕ) → a < size f
      → (way : Way compiled.roots compiled.hung a) × ((s : Placed A) → Matches compiled.roots compiled.hung (λ n s. all_hold (simple Q) (compound_at n) s) a s ↔ Selects (simple Q) (selector compiled.roots compiled.hung compound_at way) s)
  node-selector a h = let way = every_way f compiled.roots compiled.hung compiled-reads.roots compiled-reads.hung a h in (way, matches-selector compiled.roots compiled.hung compound_at (simple Q) (reads-shaped Q f compiled compiled-reads) way)
