-- No node is live or counted twice in any run, so there are never more of them than the forest has nodes.
use Rattle.std.specs.Prelude.{◌≡◌, refl, List, [], ◌∷◌, length, ℕ, ◌<◌, ◌≤◌}
use Rattle.meaning.specs.Lists.{Distinct}
use Rattle.meaning.specs.Document.{Link, start}
use Rattle.meaning.specs.Elements.{Where, Placed, Tag, Given, Element}
use Rattle.meaning.specs.Match.{Way, TreeShaped}
use Rattle.meaning.specs.Calls.{Program, Refusals, Call}
use Rattle.meaning.specs.Machine.{Stack, Machine, ready, waits, empty, live_at, step}
use Rattle.meaning.specs.Demand.{Moment, idle, address_holds}
use Rattle.meaning.proofs.Carrying.{bearers}
use Rattle.meaning.proofs.Once.{Sound, bearers-once, live-once, hits-once}
use Rattle.meaning.proofs.Answering.{hits_of, live_of, stack_of, live-carried, Stood, at_rest, held, said, step-said}
use Rattle.meaning.proofs.Spans.{at_most}

abbrev pub stack_in : {Ids : Type 0} → Machine Ids → Stack Ids
stack_in (ready k) = k
stack_in (waits k t found rest) = k

module _ {A : Type 0} (P : Program A) (R : Refusals A) where
  -- The machine after some calls.
  abbrev pub machine_after : Machine P.Ids → List (Call A) → Machine P.Ids
  machine_after m [] = m
  machine_after m (x ∷ xs) = machine_after (step P R m x).1 xs

  module _ (ghost : Where A → Tag → Given A) where
    stands-for : (m : Machine P.Ids) (w : Moment A) → Stood P R ghost m w → (xs : List (Call A)) → (c : Where A) × (stack_in (machine_after m xs) ≡ stack_of P c)
    stands-for m w (at_rest c) [] = (c, refl)
    stands-for m w (held c t found rest f) [] = (c, refl)
    stands-for m w s (x ∷ xs) = stands-for (step P R m x).1 (said P R ghost w x).1 (step-said P R ghost m w s x).1 xs

    -- After every run of calls on a fresh machine its stack is that of a place in a document.
    pub run-stands : (xs : List (Call A)) → (c : Where A) × (stack_in (machine_after (ready empty) xs) ≡ stack_of P c)
    run-stands xs = stands-for (ready empty) (idle start) (at_rest start) xs

    module _ (trees : TreeShaped P.roots P.hung) where
      -- No node is live twice.
      pub never-twice : (xs : List (Call A)) → Distinct (live_at P (stack_in (machine_after (ready empty) xs)))
      never-twice xs = let (c, e) = run-stands xs in rw (e, live-carried P c) (live-once P.roots P.hung trees (address_holds P) c).0

module _ {A : Type 0} (P : Program A) (trees : TreeShaped P.roots P.hung) (n : ℕ) (few : (a : ℕ) → Way P.roots P.hung a → a < n) where
  bounded : (xs : List ℕ) → Sound {E = Element A} P.roots P.hung trees (address_holds P) xs → length xs ≤ n
  bounded xs s = at_most n xs s.0 (λ a m. few a (s.1 a m))

  pub live-few : (c : Where A) → length (live_of P c) ≤ n
  live-few c = bounded (live_of P c) (live-once P.roots P.hung trees (address_holds P) c)

  pub hits_few : (s : Placed A) → length (hits_of P s) ≤ n
  hits_few s = bounded (hits_of P s) (hits-once P.roots P.hung trees (address_holds P) s)

  pub bearers-few : (c : Where A) (l : Link) → length (bearers P.roots P.hung (address_holds P) c l) ≤ n
  bearers-few c l = bounded (bearers P.roots P.hung (address_holds P) c l) (bearers-once P.roots P.hung trees (address_holds P) c l)
