-- What joins a machine's addresses to the nodes of a forest.
use Rattle.std.specs.Prelude.{◌≡◌, ℕ}
use Rattle.meaning.specs.Lists.{every, Pairs, full}
use Rattle.meaning.specs.Document.{Link}
use Rattle.meaning.specs.Trees.{Forest, Node, nodes, hung, some_node}
use Rattle.meaning.specs.Match.{TreeShaped}
use Rattle.meaning.specs.Elements.{Tag}
use Rattle.meaning.specs.Tests.{Tests, of_type_tested}
use Rattle.meaning.specs.Calls.{Program}

-- A program holds a forest: the addresses are its nodes, with their links, their tests and their ids. The layout of a forest is such a program (Compiled); so are rows in a store.
pub record Carries {A : Type 0} (Q : Tests A) (f : Forest Q.D) (P : Program A) : Type 1 where
  pub Holds : ℕ → Node Q.D → Type 0
  pub tree_shaped : TreeShaped P.roots P.hung
  pub roots : Pairs Holds P.roots (nodes f)
  pub hangs : (a : ℕ) (n : Node Q.D) → Holds a n → (l : Link) → Pairs Holds (P.hung l a) (hung l n)
  pub tag_tests : (a : ℕ) (n : Node Q.D) → Holds a n → (i j : ℕ) (t : Tag) → P.tag_tests a i j t ≡ every (λ x. Q.tag_test x i j t) (Q.tag_tests n.says)
  pub attribute_tested : (a : ℕ) (n : Node Q.D) → Holds a n → P.attribute_tested a ≡ full (Q.attribute_tests n.says)
  pub attribute_tests : (a : ℕ) (n : Node Q.D) → Holds a n → (t : Tag) (g : A) → P.attribute_tests a t g ≡ every (λ x. Q.attribute_test x t g) (Q.attribute_tests n.says)
  pub ids : (a : ℕ) (n : Node Q.D) → Holds a n → P.ids a ≡ Q.ids n.says
  pub types : P.types_counted ≡ some_node (of_type_tested Q) f
