-- Links, places in a document, and what a link reaches from a place (01, section 4; Selectors 4, combinators).
use Rattle.std.specs.Prelude.{◌≡◌, refl, List, [], ◌∷◌, Bool, true, false, length, drop, ℕ, zero, suc}
use Rattle.std.proofs.Common.{ap, ◌∙◌}
use Rattle.meaning.specs.Lists.{◌∈◌, here, there, keep}

-- The ways in which a selector node hangs from another: the combinators `>` and white space.
pub data Link : Type 0 where
  child descendant : Link

-- All links, in the order in which a sheet lists what hangs from a node.
abbrev pub links : List Link
links = child ∷ descendant ∷ []

pub every-link : (l : Link) → l ∈ links
every-link child = here refl
every-link descendant = there (here refl)

-- One fact for each link is a fact of every link.
abbrev pub by_link : (P : Link → Type 0) → P child → P descendant → (l : Link) → P l
by_link P a b child = a
by_link P a b descendant = b

-- Where the next tag would stand: at the start of the document, right after a closed element, or first inside an open element.
-- Such an element stood at the place that is named with it, so a place holds all open elements and all their earlier siblings.
pub data Place (E : Type 0) : Type 0 where
  start : Place E
  after : Place E → E → Place E
  inside : Place E → E → Place E

-- An element of a document, with all that came before it.
pub record Spot (E : Type 0) : Type 0 where
  pub at : Place E
  pub element : E

abbrev pub spot : {E : Type 0} → Place E → E → Spot E
spot c e = record { at = c; element = e }

-- What a link reaches from a place: child, the open parent; descendant, every open ancestor, innermost first.
abbrev pub reach : {E : Type 0} → Link → Place E → List (Spot E)
reach l start = []
reach child (after c e) = reach child c
reach descendant (after c e) = reach descendant c
reach child (inside c e) = spot c e ∷ []
reach descendant (inside c e) = spot c e ∷ reach descendant c

-- The open elements at a place, innermost first.
abbrev pub opened : {E : Type 0} → Place E → List (Spot E)
opened c = reach descendant c

-- The earlier siblings at a place, the last first.
abbrev pub before : {E : Type 0} → Place E → List (Spot E)
before start = []
before (after c e) = spot c e ∷ before c
before (inside c e) = []

-- The position among its siblings, from 1, of an element that stands at a place.
abbrev pub position : {E : Type 0} → Place E → ℕ
position c = suc (length (before c))

-- Its position, from 1, among those siblings whose name is its own, as a test of elements tells.
abbrev pub position_of_type : {E : Type 0} → (E → Bool) → Place E → ℕ
position_of_type named c = suc (length (keep (λ s. named s.element) (before c)))

-- The place after an element: inside it if it has content, else right after it.
abbrev pub enter : {E : Type 0} → Bool → Place E → E → Place E
enter true c e = inside c e
enter false c e = after c e

-- The place after the innermost open element is closed.
abbrev pub close : {E : Type 0} → Place E → Place E
close start = start
close (after c e) = close c
close (inside c e) = after c e

-- The place after the n innermost open elements are closed.
abbrev pub closes : {E : Type 0} → ℕ → Place E → Place E
closes zero c = c
closes (suc n) c = closes n (close c)

-- ---- Closing leaves open what was open outside.
opened-close : {E : Type 0} (c : Place E) → opened (close c) ≡ drop 1 (opened c)
opened-close start = refl
opened-close (after c e) = opened-close c
opened-close (inside c e) = refl

drop-drop : {A : Type 0} (n : ℕ) (xs : List A) → drop n (drop 1 xs) ≡ drop (suc n) xs
drop-drop zero [] = refl
drop-drop (suc n) [] = refl
drop-drop n (x ∷ xs) = refl

pub opened-closes : {E : Type 0} (n : ℕ) (c : Place E) → opened (closes n c) ≡ drop n (opened c)
opened-closes zero c = refl
opened-closes (suc n) c = opened-closes n (close c) ∙ ap (drop n) (opened-close c) ∙ drop-drop n (opened c)
