-- When the tests of a sheet hold, in W3C's words (`Standard`), with the exceptions of document 01, section 5, and no others.
use Rattle.std.specs.Prelude.{◌≡◌, refl, ◌↔◌, ◌⊎◌, Bool, ℕ, T, ℤ, pos, length}
use Rattle.std.proofs.Math.Path.{sym, ap, subst}
use Rattle.std.proofs.Common.{◌∙◌, inl, inr, ⊎_elim, arith}
use Rattle.std.proofs.Math.Logic.Iff
use Rattle.std.proofs.Math.Bool.{true, false}
use mathlib.Core.List.{List, [], ◌∷◌}
use Rattle.letters.specs.Bytes.{fold, equal_bytes, same_bytes}
use Rattle.letters.specs.BytesLaws.{equal→eq, equal-refl}
use Rattle.nth.specs.Nth.{Nth}
use Rattle.nth.specs.NthLaws.{nth-law}
use Rattle.names.specs.NameLaws.{fold-twice, name-law}
use Rattle.rules.specs.Attributes.{Attribute, lookup}
use Rattle.rules.specs.AttributeLaws.{lowered-first, there-law, exact, any-case-law, there-any-case}
use Rattle.node_tests.specs.LoweredLaws as lowered
use Rattle.operators.specs.Operators.{operator_holds, value_holds}
use Rattle.operators.specs.OperatorLaws.{equal-law, includes-law, dash-law, prefix-law, suffix-law, substring-law}
use Rattle.node_tests.specs.Tests.{TagTest, any, unmatchable, local_name, nth_child, nth_of_type, id_is, has_class, exists, compares, id_name, class_name, ignores_case, tag_holds, attribute_holds, opposite}
use Rattle.operators.specs.Standard.{Equal, Prefix, Suffix, Substring, Dash, Part, Includes}
use Rattle.rules.specs.Standard.{TypeSelector, HasAttribute, WithValue, IdSelector, ClassSelector}
use Rattle.rules.specs.Departures.{CaseIgnored, AnyCase}
use Rattle.operators.specs.declared.Operator.{Operator}

-- ---- tag tests

-- E11: a local name is W3C's type selector, and ignores ASCII case outside HTML too; nowhere else does the test leave it.
pub local-name-law : (html : Bool) (name : List ℕ) (child of_type : ℕ) (wanted : List ℕ)
    → T (tag_holds name child of_type (local_name wanted)) ↔ (TypeSelector html name wanted ⊎ ((html ≡ false) × ((name ≡ wanted → ⊥) × (fold true name ≡ fold true wanted))))
unfolding tag_holds TypeSelector
local-name-law true name child of_type wanted = (λ t. inl ((name-law name wanted).0 t), ⊎_elim (name-law name wanted).1 (λ p. (name-law name wanted).1 p.1.1))
local-name-law false name child of_type wanted = (
  (λ t. by_bytes (equal_bytes name wanted) refl ((name-law name wanted).0 t)),
  ⊎_elim (λ e. (name-law name wanted).1 (ap (fold true) (exact name wanted e))) (λ p. (name-law name wanted).1 p.1.1),
)
  where
    by_bytes : (b : Bool) → equal_bytes name wanted ≡ b → fold true name ≡ fold true wanted → (fold false name ≡ fold false wanted) ⊎ ((false ≡ false) × ((name ≡ wanted → ⊥) × (fold true name ≡ fold true wanted)))
    by_bytes true e h = inl (ap (fold false) (equal→eq name wanted (subst T (sym e) tt)))
    by_bytes false e h = inr (refl, ((λ z. subst T (sym (ap (equal_bytes name) (sym z)) ∙ e) (subst T (sym (equal-refl name)) tt)), h))

-- E10: nth is exact for all whole numbers. (E3, by which names without namespace are counted, is about the positions that are passed in.)
pub nth-child-law : (name : List ℕ) (child of_type : ℕ) (step offset : ℤ) → T (tag_holds name child of_type (nth_child step offset)) ↔ Nth step offset (pos child)
unfolding tag_holds
nth-child-law name child of_type step offset = nth-law step offset (pos child)

pub nth-of-type-law : (name : List ℕ) (child of_type : ℕ) (step offset : ℤ) → T (tag_holds name child of_type (nth_of_type step offset)) ↔ Nth step offset (pos of_type)
unfolding tag_holds
nth-of-type-law name child of_type step offset = nth-law step offset (pos of_type)

-- Lower-casing a tag's name first changes no test.
pub lowered-same : (name : List ℕ) (child of_type : ℕ) (t : TagTest) → tag_holds (fold true name) child of_type t ≡ tag_holds name child of_type t
unfolding tag_holds same_bytes
lowered-same name child of_type any = refl
lowered-same name child of_type unmatchable = refl
lowered-same name child of_type (local_name wanted) = rw (fold-twice name)
lowered-same name child of_type (nth_child step offset) = refl
lowered-same name child of_type (nth_of_type step offset) = refl

-- ---- attribute tests

-- a value passes exactly when it is the first one's and the operator holds for it
value-law : (operator : Operator) (f : Bool) (operand name : List ℕ) (attributes : List Attribute)
    → T (value_holds operator f operand (lookup (fold true name) attributes)) ↔ WithValue true name (λ value. T (operator_holds operator f value operand)) attributes
unfolding WithValue
value-law operator f operand name attributes =
    Iff.trans (lowered.value-law operator f operand (fold true name) attributes)
    (λ (value, (p, t)). (value, ((lowered-first name value attributes).0 p, t)), λ (value, (p, t)). (value, ((lowered-first name value attributes).1 p, t)))

by-value : {P Q : List ℕ → Type 0} (name : List ℕ) (attributes : List Attribute) → ((value : List ℕ) → P value ↔ Q value) → WithValue true name P attributes ↔ WithValue true name Q attributes
unfolding WithValue
by-value name attributes same = ((λ (value, (p, h)). (value, (p, (same value).0 h))), (λ (value, (p, h)). (value, (p, (same value).1 h))))

-- what the operator of an id or a class says of a value, with E9 and E2
id-value : (quirks : Bool) (operand value : List ℕ) → T (operator_holds Operator.Equal false value operand) ↔ ((IdSelector quirks value operand × (T quirks → IdSelector false value operand)) ⊎ ((operand ≡ []) × (value ≡ [])))
unfolding operator_holds IdSelector Equal
id-value quirks operand value = (λ t. to operand ((equal-law false value operand).0 t), λ s. (equal-law false value operand).1 (from quirks s))
  where
    to : (x : List ℕ) → fold false value ≡ fold false x → (((x ≡ [] → ⊥) × (fold quirks value ≡ fold quirks x)) × (T quirks → (x ≡ [] → ⊥) × (fold false value ≡ fold false x))) ⊎ ((x ≡ []) × (value ≡ []))
    to [] e = inr (refl, exact value [] e)
    to (b ∷ x) e =
        let n : b ∷ x ≡ [] → ⊥ = λ z. let k = ap length z in omega arith in
        inl ((n, ap (fold quirks) (exact value (b ∷ x) e)), λ q. (n, e))

    from : (q : Bool) → (((operand ≡ [] → ⊥) × (fold q value ≡ fold q operand)) × (T q → (operand ≡ [] → ⊥) × (fold false value ≡ fold false operand))) ⊎ ((operand ≡ []) × (value ≡ [])) → fold false value ≡ fold false operand
    from true (inl (h, k)) = (k tt).1
    from false (inl (h, k)) = h.1
    from q (inr (z, w)) = ap (fold false) (w ∙ sym z)

class-value : (quirks : Bool) (operand value : List ℕ)
    → T (operator_holds Operator.Includes false value operand) ↔ ((ClassSelector quirks value operand × (T quirks → ClassSelector false value operand)) ⊎ ((operand ≡ []) × Part value []))
unfolding operator_holds ClassSelector Includes
class-value quirks operand value = (
  (λ t. ⊎_elim (λ h. inl (lax h, λ q. h)) inr ((includes-law false value operand).0 t)),
  (λ s. (includes-law false value operand).1 (from quirks s)),
)
  where
    lax : Includes false value operand → Includes quirks value operand
    lax (n, (c, (p, (q, e)))) = (n, (c, (p, (q, ap (fold quirks) (exact p operand e)))))

    from : (q : Bool) → ((Includes q value operand × (T q → Includes false value operand)) ⊎ ((operand ≡ []) × Part value [])) → Includes false value operand ⊎ ((operand ≡ []) × Part value [])
    from true (inl (h, k)) = inl (k tt)
    from false (inl (h, k)) = inl h
    from q (inr p) = inr p

-- Each looks at W3C's attribute, save by E11 (`AnyCase`), and says of its value what follows.
module _ (html : Bool) (attributes : List Attribute) where
  by-operator : (operator : Operator) (f : Bool) (operand name : List ℕ) (Says : List ℕ → Type 0) → ((value : List ℕ) → T (operator_holds operator f value operand) ↔ Says value)
      → T (value_holds operator f operand (lookup (fold true name) attributes)) ↔ AnyCase html name Says attributes
  by-operator operator f operand name Says same = Iff.trans (value-law operator f operand name attributes) (Iff.trans (by-value name attributes same) (any-case-law name html Says attributes))

  -- W3C's id selector; E9: in quirks documents only where it holds in others too; E2: an empty operand matches an empty id.
  pub id-law : (quirks : Bool) (operand : List ℕ)
      → T (attribute_holds html attributes (id_is operand)) ↔ AnyCase html id_name (λ value. (IdSelector quirks value operand × (T quirks → IdSelector false value operand)) ⊎ ((operand ≡ []) × (value ≡ []))) attributes
  unfolding attribute_holds id_name
  id-law quirks operand = by-operator Operator.Equal false operand id_name _ (id-value quirks operand)

  -- W3C's class selector; E9: in quirks documents only where it holds in others too; E2: an empty operand matches where some part of the value is empty.
  pub class-law : (quirks : Bool) (operand : List ℕ)
      → T (attribute_holds html attributes (has_class operand)) ↔ AnyCase html class_name (λ value. (ClassSelector quirks value operand × (T quirks → ClassSelector false value operand)) ⊎ ((operand ≡ []) × Part value [])) attributes
  unfolding attribute_holds class_name
  class-law quirks operand = by-operator Operator.Includes false operand class_name _ (class-value quirks operand)

  -- W3C's [att]; E11: or the attribute is there in other case, outside HTML; E4: a name with a capital is never found.
  pub exists-law : (name : List ℕ) → T (attribute_holds html attributes (exists name)) ↔ ((HasAttribute html name attributes ⊎ CaseIgnored html name attributes) × (fold true name ≡ name))
  unfolding attribute_holds HasAttribute
  exists-law name = (
    (λ t. let (a, (m, e)) = (there-law name attributes).0 t in
        let low : fold true name ≡ name = ap (fold true) (sym e) ∙ fold-twice a.name ∙ e in
        ((there-any-case name html attributes).0 (a, (m, e ∙ sym low)), low)),
    (λ (h, low). let (a, (m, e)) = (there-any-case name html attributes).1 h in (there-law name attributes).1 (a, (m, e ∙ low))),
  )

  -- A comparison, by what its operator computes; the six laws below say it in W3C's words.
  pub compares-law : (operator : Operator) (case : ℕ) (name operand : List ℕ)
      → T (attribute_holds html attributes (compares operator case name operand)) ↔ AnyCase html name (λ value. T (operator_holds operator (ignores_case case html) value operand)) attributes
  unfolding attribute_holds
  compares-law operator case name operand = by-operator operator (ignores_case case html) operand name _ (λ value. Iff.rfl)

  module _ (case : ℕ) (name operand : List ℕ) where
    -- a comparison holds exactly when of the value of the attribute of the name is said so
    abbrev Comparing : Operator → (List ℕ → Type 0) → Type 0
    Comparing operator Says = T (attribute_holds html attributes (compares operator case name operand)) ↔ AnyCase html name Says attributes

    -- [att=val]
    pub equal-test-law : Comparing Operator.Equal (λ value. Equal (ignores_case case html) value operand)
    unfolding attribute_holds operator_holds
    equal-test-law = by-operator Operator.Equal (ignores_case case html) operand name _ (λ value. equal-law (ignores_case case html) value operand)

    -- [att~=val]; E2: an empty operand matches where some part of the value is empty.
    pub includes-test-law : Comparing Operator.Includes (λ value. Includes (ignores_case case html) value operand ⊎ ((operand ≡ []) × Part value []))
    unfolding attribute_holds operator_holds
    includes-test-law = by-operator Operator.Includes (ignores_case case html) operand name _ (λ value. includes-law (ignores_case case html) value operand)

    -- [att|=val]
    pub dash-test-law : Comparing Operator.Dash (λ value. Dash (ignores_case case html) value operand)
    unfolding attribute_holds operator_holds
    dash-test-law = by-operator Operator.Dash (ignores_case case html) operand name _ (λ value. dash-law (ignores_case case html) value operand)

    -- [att^=val]; E1: an empty operand matches any value that is not empty.
    pub prefix-test-law : Comparing Operator.Prefix (λ value. Prefix (ignores_case case html) value operand ⊎ ((operand ≡ []) × (value ≡ [] → ⊥)))
    unfolding attribute_holds operator_holds
    prefix-test-law = by-operator Operator.Prefix (ignores_case case html) operand name _ (λ value. prefix-law (ignores_case case html) value operand)

    -- [att$=val]; E1
    pub suffix-test-law : Comparing Operator.Suffix (λ value. Suffix (ignores_case case html) value operand ⊎ ((operand ≡ []) × (value ≡ [] → ⊥)))
    unfolding attribute_holds operator_holds
    suffix-test-law = by-operator Operator.Suffix (ignores_case case html) operand name _ (λ value. suffix-law (ignores_case case html) value operand)

    -- [att*=val]
    pub substring-test-law : Comparing Operator.Substring (λ value. Substring (ignores_case case html) value operand)
    unfolding attribute_holds operator_holds
    substring-test-law = by-operator Operator.Substring (ignores_case case html) operand name _ (λ value. substring-law (ignores_case case html) value operand)

-- ---- negation

-- A negated test holds exactly when the test does not.
pub negation-law : (holds : Bool) → T (opposite true holds) ↔ (T holds → ⊥)
unfolding opposite
negation-law true = (λ t u. t, λ n. n tt)
negation-law false = (λ t u. u, λ n. tt)

pub plain-law : (holds : Bool) → T (opposite false holds) ↔ T holds
unfolding opposite
plain-law holds = (λ t. t, λ t. t)
