-- To stop at the first node that asks for attributes, and to go on from there, is to test all nodes at once.
use Rattle.std.specs.Prelude.{◌≡◌, refl, List, [], ◌∷◌, ◌++◌, Bool, true, false, ◌&&◌, ◌||◌, ℕ}
use Rattle.std.proofs.Common.{ap, ◌∙◌}
use Rattle.meaning.specs.Lists.{keep, some, put_if}
use Rattle.meaning.specs.Machine.{Scan, done, stuck, found_too, visit, scan}

abbrev pub asks : Scan → Bool
asks (done found) = false
asks (stuck found rest) = true

module _ (tag_tests attribute_tested : ℕ → Bool) where
  -- A scan stops exactly when some node passes its tag tests and has an attribute test.
  pub scan-asks : (ns : List ℕ) → asks (scan tag_tests attribute_tested ns) ≡ some (λ n. tag_tests n && attribute_tested n) ns
  scan-asks [] = refl
  scan-asks (n ∷ ns) = go (tag_tests n) (attribute_tested n) (scan-asks ns)
    where
      sc : Scan
      sc = scan tag_tests attribute_tested ns

      added : (s : Scan) → asks (found_too n s) ≡ asks s
      added (done found) = refl
      added (stuck found rest) = refl

      go : (a b : Bool) → asks sc ≡ some (λ x. tag_tests x && attribute_tested x) ns → asks (visit tag_tests attribute_tested a b n ns sc) ≡ a && b || some (λ x. tag_tests x && attribute_tested x) ns
      go false b ih = ih
      go true true ih = refl
      go true false ih = added sc ∙ ih

  module _ (attribute_tests : ℕ → Bool) (untested : (n : ℕ) → attribute_tested n ≡ false → attribute_tests n ≡ true) where
    -- What a scan comes to, once the attributes are there.
    abbrev pub finish : Scan → List ℕ
    finish (done found) = found
    finish (stuck found rest) = found ++ keep (λ n. tag_tests n && attribute_tests n) rest

    pub finish-scan : (ns : List ℕ) → finish (scan tag_tests attribute_tested ns) ≡ keep (λ n. tag_tests n && attribute_tests n) ns
    finish-scan [] = refl
    finish-scan (n ∷ ns) = go (tag_tests n) refl (attribute_tested n) refl (finish-scan ns)
      where
        sc : Scan
        sc = scan tag_tests attribute_tested ns

        both : ℕ → Bool
        both x = tag_tests x && attribute_tests x

        added : (s : Scan) → finish (found_too n s) ≡ n ∷ finish s
        added (done found) = refl
        added (stuck found rest) = refl

        go : (a : Bool) → tag_tests n ≡ a → (b : Bool) → attribute_tested n ≡ b → finish sc ≡ keep both ns → finish (visit tag_tests attribute_tested a b n ns sc) ≡ put_if (a && attribute_tests n) n (keep both ns)
        go false e b e' ih = ih
        go true e true e' ih = ap (λ a. put_if (a && attribute_tests n) n (keep both ns)) e
        go true e false e' ih = rw (untested n e') (added sc ∙ ap (λ x. n ∷ x) ih)
