-- The name key only saves work: a tag with another key passes no node that has one.
use Rattle.std.specs.Prelude.{ℕ, ◌≡◌, Bool, cond}
use Rattle.std.proofs.Math.Path.{refl}
use Rattle.std.proofs.Common.{sym}
use Rattle.std.proofs.Math.Bool.{true, false}
use mathlib.Core.List.{List, [], ◌∷◌}
use Rattle.meaning.specs.Lists.{every}
use Rattle.names.specs.Names.{same_name, name_key}
use Rattle.names.specs.NameLaws.{key-same}
use Rattle.node_tests.specs.Tests.{Negatable, TagTest, any, unmatchable, local_name, nth_child, nth_of_type, tag_holds, opposite, tag_test_holds}
use Rattle.program.specs.Program.{tag_key, test_key, node_key}

-- a comparison that would give equal keys did not hold
failed : (b : Bool) → (b ≡ true → ⊥) → b ≡ false
failed true h = absurd (h refl)
failed false h = refl

module _ (name : List ℕ) (i j : ℕ) where
  by-test : (negated : Bool) (test : TagTest) → (cond negated 0 (tag_key test) ≡ 0 → ⊥) → (cond negated 0 (tag_key test) ≡ name_key name → ⊥) → opposite negated (tag_holds name i j test) ≡ false
  unfolding tag_key opposite tag_holds
  by-test true test a b = absurd (a refl)
  by-test false any a b = absurd (a refl)
  by-test false unmatchable a b = absurd (a refl)
  by-test false (local_name wanted) a b = failed (same_name name wanted) (λ e. b (sym (key-same name wanted (rw e tt))))
  by-test false (nth_child step offset) a b = absurd (a refl)
  by-test false (nth_of_type step offset) a b = absurd (a refl)

  pub key-skips : (tests : List (Negatable TagTest)) → (node_key tests ≡ 0 → ⊥) → (node_key tests ≡ name_key name → ⊥) → every (λ t. tag_test_holds name i j t) tests ≡ false
  unfolding node_key test_key tag_test_holds
  key-skips [] a b = absurd (a refl)
  key-skips (t ∷ tests) a b = rw (by-test t.negated t.test a b) refl
