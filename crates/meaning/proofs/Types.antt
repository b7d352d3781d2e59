-- E3: the position among those of the name is W3C's, which looks at the namespace too, and one more for each earlier sibling of that name in another namespace.
use Rattle.std.specs.Prelude.{◌≡◌, refl, List, [], ◌∷◌, Bool, true, false, not, ◌&&◌, length, eqb, ◌+◌}
use Rattle.std.proofs.Common.{arith}
use Rattle.meaning.specs.Lists.{keep}
use Rattle.meaning.specs.Document.{before, Spot}
use Rattle.meaning.specs.Elements.{Tag, Element, Where, same_name, position_of_name}
use Rattle.meaning.specs.Standard.{position_of_own_type, siblings_elsewhere}

parted : {B : Type 0} (p q : B → Bool) (xs : List B) → length (keep p xs) ≡ length (keep (λ x. p x && q x) xs) + length (keep (λ x. p x && not (q x)) xs)
parted p q [] = refl
parted p q (x ∷ xs) = go (p x) refl (q x) refl (parted p q xs)
  where
    go : (a : Bool) → p x ≡ a → (b : Bool) → q x ≡ b → length (keep p xs) ≡ length (keep (λ x. p x && q x) xs) + length (keep (λ x. p x && not (q x)) xs)
        → length (keep p (x ∷ xs)) ≡ length (keep (λ x. p x && q x) (x ∷ xs)) + length (keep (λ x. p x && not (q x)) (x ∷ xs))
    go true e true f ih = rw (e, f) (omega (arith, ih))
    go true e false f ih = rw (e, f) (omega (arith, ih))
    go false e b f ih = rw e ih

pub type-law : {A : Type 0} (t : Tag) (c : Where A) → position_of_name t.name c ≡ position_of_own_type t c + siblings_elsewhere t c
type-law t c =
    let h = parted (λ (s : Spot (Element _)). same_name t.name s.element.tag.name) (λ s. eqb t.namespace s.element.tag.namespace) (before c) in
    omega (arith, h)
