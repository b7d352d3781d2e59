-- Tags and elements as a machine is told of them, the content rule and the pop rule (01, sections 3 and 4).
use Rattle.std.specs.Prelude.{◌≡◌, List, [], ◌∷◌, ◌++◌, Bool, true, false, not, ◌&&◌, cond, eqb, ℕ, suc}
use Rattle.meaning.specs.Lists.{◌∈◌, some}
use Rattle.meaning.specs.Document.{Place, start, after, inside, Spot, before, position_of_type}

-- The bytes of a name, capitals lowered.
abbrev pub Name : Type 0
Name = List ℕ

-- Whether two names are the same.
abbrev pub same_name : Name → Name → Bool
same_name [] [] = true
same_name [] (y ∷ ys) = false
same_name (x ∷ xs) [] = false
same_name (x ∷ xs) (y ∷ ys) = eqb x y && same_name xs ys

-- A start tag without its attributes.
pub record Tag : Type 0 where
  pub name : Name
  pub namespace : ℕ  -- 0 HTML, 1 SVG, 2 MathML
  pub void : Bool  -- its name is one of the void names

-- What comes with a tag's attributes; `A` is what attribute tests look at.
pub record Given (A : Type 0) : Type 0 where
  pub self_closing : Bool
  pub attributes : A

-- A start tag with its attributes.
pub record Element (A : Type 0) : Type 0 where
  pub tag : Tag
  pub given : Given A

-- A place in a document of such elements, and an element there with all that came before it.
abbrev pub Where : Type 0 → Type 0
Where A = Place (Element A)

abbrev pub Placed : Type 0 → Type 0
Placed A = Spot (Element A)

abbrev pub element : {A : Type 0} → Tag → Given A → Element A
element t g = record { tag = t; given = g }

-- Whether a tag is of namespace HTML.
abbrev pub html : Tag → Bool
html t = eqb t.namespace 0

-- Content flag: HTML has content unless its name is void, whatever the self-closing mark; SVG and MathML have it unless self-closing.
abbrev pub content : Tag → Bool → Bool
content t self_closing = cond (html t) (not t.void) (not self_closing)

abbrev pub has_content : {A : Type 0} → Element A → Bool
has_content e = content e.tag e.given.self_closing

module _ {A : Type 0} where
  -- The name of an element.
  abbrev pub name_of : Placed A → Name
  name_of s = s.element.tag.name

  -- Whether no earlier sibling at a place has a name.
  abbrev pub new_name : Name → Where A → Bool
  new_name x c = not (some (λ s. same_name x (name_of s)) (before c))

  -- The position of a tag at a place among the siblings of its name; namespace plays no part (E3).
  abbrev pub position_of_name : Name → Where A → ℕ
  position_of_name x c = position_of_type (λ e. same_name x e.tag.name) c

-- The pop rule: an end tag of this name closes these of the open elements, innermost first: through the nearest of the name, or none.
pub data Closes {A : Type 0} (x : Name) (all : List (Placed A)) : List (Placed A) → Type 0 where
  none : ((s : Placed A) → s ∈ all → ¬ (name_of s ≡ x)) → Closes x all []
  through : (inner outer : List (Placed A)) (s : Placed A) → all ≡ inner ++ (s ∷ outer) → ((r : Placed A) → r ∈ inner → ¬ (name_of r ≡ x)) → name_of s ≡ x → Closes x all (inner ++ (s ∷ []))

-- Live pairs of name and level: one for each element, of an open level, that is the first of its name there.
abbrev pub pairs : {A : Type 0} → Where A → ℕ
pairs start = 0
pairs (after c e) = cond (new_name e.tag.name c) (suc (pairs c)) (pairs c)
pairs (inside c e) = cond (new_name e.tag.name c) (suc (pairs c)) (pairs c)
