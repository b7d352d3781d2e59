-- P10, P11 and P12 of 01, section 6, on the machine over a layout, by computation.
use Rattle.std.specs.Prelude.{◌≡◌, refl, List, [], ◌∷◌, map, true, false, ℕ}
use Rattle.meaning.specs.Document.{Link, child, descendant}
use Rattle.meaning.specs.Trees.{Forest, end, tree, size}
use Rattle.meaning.specs.Layout.{layout, below}
use Rattle.meaning.specs.Elements.{Name, same_name}
use Rattle.meaning.specs.Tests.{Tests}
use Rattle.meaning.specs.Calls.{Call, start_tag, end_tag, ids_asked, Answer, matched, popped, top_ids, nothing_open, refused}
use Rattle.meaning.specs.Machine.{ready, empty, run}
use Rattle.meaning.specs.Limits.{section_2, refusals}
use Rattle.meaning.proofs.Compiled.{compiled}

abbrev hanging : {D : Type 0} → Forest D → Forest D → Link → Forest D
hanging c d child = c
hanging c d descendant = d

abbrev leaf : {D : Type 0} → D → Forest D
leaf d = tree d (hanging end end) end

-- Roots A and B; A has child C and descendant G; C has descendant F. Letters are their bytes.
abbrev letters : Forest ℕ
letters = tree 65 (hanging (tree 67 (hanging end (leaf 70)) end) (leaf 71)) (leaf 66)

P10 : map (λ i. i.says) (layout 0 letters) ≡ 65 ∷ 66 ∷ 67 ∷ 70 ∷ 71 ∷ []
unfolding size below
P10 = refl

-- A node is a name and an id.
pub record Named : Type 0 where
  pub name : Name
  pub id : ℕ

abbrev by_name : Tests Unit
by_name = record {
  D = Named;
  TagTest = Name;
  AttributeTest = Unit;
  ids = λ d. d.id ∷ [];
  tag_tests = λ d. d.name ∷ [];
  attribute_tests = λ d. [];
  tag_test = λ x i j t. same_name x t.name;
  attribute_test = λ x t a. true;
  of_type = λ x. false;
  not_of_type = λ x e i j k t. refl;
}

abbrev div : Name
div = 100 ∷ 105 ∷ 118 ∷ []

abbrev p : Name
p = 112 ∷ []

abbrev span : Name
span = 115 ∷ 112 ∷ 97 ∷ 110 ∷ []

abbrev start_html : Name → Call Unit
start_html x = start_tag (record { name = x; namespace = 0; void = false })

abbrev answers : Forest Named → List (Call Unit) → List (Answer (List ℕ))
answers f xs = run (compiled by_name f) (refusals section_2 (λ a. false)) (ready empty) xs

-- `div` open, then `span`: `</p>` pops none, `</div>` pops two.
P11 : answers end (start_html div ∷ start_html span ∷ end_tag p 4 ∷ end_tag div 4 ∷ []) ≡ matched [] true ∷ matched [] true ∷ popped [] ∷ popped ([] ∷ [] ∷ []) ∷ []
unfolding size below
P11 = refl

-- `div > p` with id 3, its `div` with id 1: `p` in `div` yes; `p` in `span` in `div` no.
P12 : answers (tree (record { name = div; id = 1 }) (hanging (leaf (record { name = p; id = 3 })) end) end)
    (ids_asked ∷ start_html div ∷ start_html p ∷ ids_asked ∷ end_tag p 1 ∷ end_tag p 2 ∷ start_html span ∷ start_html p ∷ end_tag div 6 ∷ [])
    ≡ nothing_open ∷ matched (1 ∷ []) true ∷ matched (3 ∷ []) true ∷ top_ids (3 ∷ []) ∷ refused 29 ∷ popped ((3 ∷ []) ∷ []) ∷ matched [] true ∷ matched [] true ∷ popped ((1 ∷ []) ∷ [] ∷ [] ∷ []) ∷ []
unfolding size below
P12 = refl
