-- When the tests by attribute name hold, by the attribute of the lower-cased name whatever the tag's namespace; `Exceptions` says it by namespace.
use Rattle.std.specs.Prelude.{◌≡◌, refl, ◌↔◌, ◌⊎◌, Bool, ℕ, T}
use Rattle.std.proofs.Math.Path.{sym, ap, subst}
use Rattle.std.proofs.Common.{◌∙◌}
use Rattle.std.proofs.Math.Bool.{true, false}
use mathlib.Core.List.{List, []}
use Rattle.std.proofs.Math.Option.{Option, none, some}
use Rattle.letters.specs.Bytes.{fold}
use Rattle.letters.specs.BytesLaws.{fold-false}
use Rattle.names.specs.NameLaws.{fold-twice}
use Rattle.rules.specs.Attributes.{Attribute, lookup}
use Rattle.rules.specs.AttributeLaws.{there-law, lookup-lowered}
use Rattle.rules.specs.Lowered.{HasLowered, FirstLowered}
use Rattle.operators.specs.Operators.{operator_holds, value_holds}
use Rattle.operators.specs.OperatorLaws.{equal-law, includes-law}
use Rattle.operators.specs.Standard.{Equal, Part, Includes}
use Rattle.operators.specs.declared.Operator.{Operator}
use Rattle.node_tests.specs.Tests.{id_is, has_class, exists, compares, id_name, class_name, ignores_case, attribute_holds}

-- a value passes exactly when it is the first one's and the operator holds for it
pub value-law : (operator : Operator) (f : Bool) (operand wanted : List ℕ) (attributes : List Attribute)
    → T (value_holds operator f operand (lookup wanted attributes)) ↔ ((value : List ℕ) × (FirstLowered wanted value attributes × T (operator_holds operator f value operand)))
unfolding value_holds
value-law operator f operand wanted attributes = (to (lookup wanted attributes) refl, from)
  where
    to : (o : Option (List ℕ)) → lookup wanted attributes ≡ o → T (value_holds operator f operand o) → (value : List ℕ) × (FirstLowered wanted value attributes × T (operator_holds operator f value operand))
    to none e t = absurd t
    to (some value) e t = (value, ((lookup-lowered wanted attributes value).0 e, t))

    from : ((value : List ℕ) × (FirstLowered wanted value attributes × T (operator_holds operator f value operand))) → T (value_holds operator f operand (lookup wanted attributes))
    from (value, (p, t)) = subst (λ (o : Option (List ℕ)). T (value_holds operator f operand o)) (sym ((lookup-lowered wanted attributes value).1 p)) t

module _ (html : Bool) (attributes : List Attribute) where
  -- E9: an id is compared exactly, whatever the namespace; E2: an empty operand matches an empty id.
  pub id-law : (operand : List ℕ) → T (attribute_holds html attributes (id_is operand)) ↔ FirstLowered id_name operand attributes
  unfolding attribute_holds operator_holds Equal
  id-law operand = (
    (λ t. let (value, (p, e)) = (value-law Operator.Equal false operand id_name attributes).0 t in
        subst (λ (v : List ℕ). FirstLowered id_name v attributes) (sym (fold-false value) ∙ (equal-law false value operand).0 e ∙ fold-false operand) p),
    (λ p. (value-law Operator.Equal false operand id_name attributes).1 (operand, (p, (equal-law false operand operand).1 refl))),
  )

  -- E9: a class is compared exactly; E2: an empty operand matches where some part of the value is empty.
  pub class-law : (operand : List ℕ)
      → T (attribute_holds html attributes (has_class operand)) ↔ ((value : List ℕ) × (FirstLowered class_name value attributes × (Includes false value operand ⊎ ((operand ≡ []) × Part value []))))
  unfolding attribute_holds operator_holds
  class-law operand = (
    (λ t. let (value, (p, h)) = (value-law Operator.Includes false operand class_name attributes).0 t in (value, (p, (includes-law false value operand).0 h))),
    (λ (value, (p, h)). (value-law Operator.Includes false operand class_name attributes).1 (value, (p, (includes-law false value operand).1 h))),
  )

  -- E4: an exists name with a capital is never found; any other is W3C's [att] of HTML. (E11: in every namespace.)
  pub exists-law : (name : List ℕ) → T (attribute_holds html attributes (exists name)) ↔ (HasLowered name attributes × (fold true name ≡ name))
  unfolding attribute_holds HasLowered
  exists-law name = (
    (λ t. let (a, (m, e)) = (there-law name attributes).0 t in
        let low : fold true name ≡ name = ap (fold true) (sym e) ∙ fold-twice a.name ∙ e in
        ((a, (m, e ∙ sym low)), low)),
    (λ ((a, (m, e)), low). (there-law name attributes).1 (a, (m, e ∙ low))),
  )

  -- A comparison looks at the first attribute of the lower-cased name; `OperatorLaws` says what its operator means.
  pub compares-law : (operator : Operator) (case : ℕ) (name operand : List ℕ)
      → T (attribute_holds html attributes (compares operator case name operand)) ↔ ((value : List ℕ) × (FirstLowered (fold true name) value attributes × T (operator_holds operator (ignores_case case html) value operand)))
  unfolding attribute_holds
  compares-law operator case name operand = value-law operator (ignores_case case html) operand (fold true name) attributes
