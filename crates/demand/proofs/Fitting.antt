-- There is always room: each node is live once, and no name is counted more often than the children.
use Rattle.std.specs.Prelude.{◌≡◌, refl, Bool, true, false, cond, List, [], ◌∷◌, ℕ, suc, ◌<◌, ◌≤◌, length}
use Rattle.std.proofs.Common.{sym, ap, arith, length-append}
use Rattle.sheet.specs.Parser.{node_count}
use Rattle.meaning.specs.Lists.{◌∈◌, Distinct, minus}
use Rattle.meaning.specs.Document.{descendant, start, after, inside, spot}
use Rattle.meaning.specs.Match.{Way, TreeShaped}
use Rattle.meaning.specs.Elements.{Where, same_name, Tag, Given, Element, element}
use Rattle.meaning.specs.Calls.{Call, start_tag, attributes, end_tag, ids_asked}
use Rattle.meaning.specs.Machine.{Machine, Scan, done, stuck, times_of, count_name, bearing, carried, begin, live_at, step}
use Rattle.meaning.specs.Demand.{Moment, address_holds}
use Rattle.meaning.proofs.Names.{times-count}
use Rattle.meaning.proofs.Once.{live-once}
use Rattle.meaning.proofs.Answering.{hits_of, live_of, stack_of, carried-bearers, live-carried, finished, begin-hits, Stood, at_rest, held, said, step-said}
use Rattle.meaning.proofs.Bounds.{live-few, hits_few, bearers-few}
use Rattle.demand.specs.Sheets.{Lent}
use Rattle.demand.specs.Statement.{refusing}
use Rattle.demand.specs.Rows.{test_bytes, Compiled, rows_program, roots_of, hung_of}
use Rattle.demand.proofs.Bridging.{Fit, FitScan, Times, Room, Rooms}

module _ (C : Compiled) (esi : Bool) (trees : TreeShaped (roots_of C.sheet C.program) (hung_of C.sheet C.program))
    (below : (a : ℕ) → Way (roots_of C.sheet C.program) (hung_of C.sheet C.program) a → a < node_count C.sheet)
    (light : (xs : List ℕ) → Distinct xs → ((x : ℕ) → x ∈ xs → x < node_count C.sheet) → test_bytes C.sheet C.program xs ≤ length C.sheet) where
  times-few : (c : Where Lent) → Times C esi (stack_of (rows_program C) c)
  times-few start x = omega arith
  times-few (after c e) x = go (times-few c x) C.types (same_name x e.tag.name) refl
    where
      go : times_of x (stack_of (rows_program C) c).top.types ≤ (stack_of (rows_program C) c).top.children → (b d : Bool) → same_name x e.tag.name ≡ d → times_of x (cond b (count_name e.tag.name (stack_of (rows_program C) c).top.types) (stack_of (rows_program C) c).top.types) ≤ suc (stack_of (rows_program C) c).top.children
      go h false d q = omega arith
      go h true true q = let k = times-count x e.tag.name (stack_of (rows_program C) c).top.types in rw (k, q) (omega arith)
      go h true false q = let k = times-count x e.tag.name (stack_of (rows_program C) c).top.types in rw (k, q) (omega arith)
  times-few (inside c e) x = omega arith

  fit : (c : Where Lent) (e : Element Lent) (found : List ℕ) → found ≡ hits_of (rows_program C) (spot c e) → Fit C esi (stack_of (rows_program C) c) found
  fit c e found q =
      let a = hits_few (rows_program C) trees (node_count C.sheet) below (spot c e) in
      let b = bearers-few (rows_program C) trees (node_count C.sheet) below (inside c e) descendant in
      let k = ap length (sym (carried-bearers (rows_program C) (inside c e) descendant)) in
      let l = length-append (carried (rows_program C) (stack_of (rows_program C) c) descendant) (minus (bearing (roots_of C.sheet C.program) (hung_of C.sheet C.program) descendant (hits_of (rows_program C) (spot c e))) (carried (rows_program C) (stack_of (rows_program C) c) descendant)) in
      let m = C.few in
      rw q (a, omega arith)

  live-light : (c : Where Lent) → test_bytes C.sheet C.program (live_at (rows_program C) (stack_of (rows_program C) c)) ≤ length C.sheet
  live-light c =
      let s = live-once (roots_of C.sheet C.program) (hung_of C.sheet C.program) trees (address_holds (rows_program C)) c in
      rw (live-carried (rows_program C) c) (light (live_of (rows_program C) c) s.0 (λ x m. below x (s.1 x m)))

  module _ (ghost : Where Lent → Tag → Given Lent) where
    scan-fits : (c : Where Lent) (t : Tag) (sc : Scan) → finished (rows_program C) (stack_of (rows_program C) c) t (ghost c t).attributes sc ≡ hits_of (rows_program C) (spot c (element t (ghost c t))) → FitScan C esi (stack_of (rows_program C) c) sc
    scan-fits c t (done found) e = fit c (element t (ghost c t)) found e
    scan-fits c t (stuck found rest) e = tt

    room_at : (m : Machine (List ℕ)) (w : Moment Lent) → Stood (rows_program C) refusing ghost m w → (x : Call Lent) → Room C esi m x
    room_at m w (at_rest c) (start_tag t) =
        (times-few c, rw (live-carried (rows_program C) c) (live-few (rows_program C) trees (node_count C.sheet) below c), live-light c, scan-fits c t (begin (rows_program C) (stack_of (rows_program C) c) t) (begin-hits (rows_program C) refusing ghost c t (ghost c t)))
    room_at m w (at_rest c) (attributes g) = tt
    room_at m w (at_rest c) (end_tag x r) = tt
    room_at m w (at_rest c) ids_asked = tt
    room_at m w (held c t found rest f) (start_tag u) = tt
    room_at m w (held c t found rest f) (attributes g) = (times-few c, fit c (element t g) _ (f g))
    room_at m w (held c t found rest f) (end_tag x r) = tt
    room_at m w (held c t found rest f) ids_asked = tt

    pub rooms : (m : Machine (List ℕ)) (w : Moment Lent) → Stood (rows_program C) refusing ghost m w → (xs : List (Call Lent)) → Rooms C esi m xs
    rooms m w r [] = tt
    rooms m w r (x ∷ xs) = (room_at m w r x, rooms (step (rows_program C) refusing m x).1 (said (rows_program C) refusing ghost w x).1 (step-said (rows_program C) refusing ghost m w r x).1 xs)
