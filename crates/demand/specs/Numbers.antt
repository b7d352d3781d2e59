-- By which of 01's numbers each call is refused (01, section 2), in the order in which they are looked for. The laws that no other comes up, on any bytes: proofs/Numbers.
use Rattle.std.specs.Prelude.{List, [], ◌∷◌, ℕ}
use Rattle.demand.specs.Statement.{HostCall, host_start_tag, host_attributes, host_end_tag, host_ids_asked}

-- 31 comes first in every call with a state.
abbrev pub refusals_of : HostCall → List ℕ
refusals_of (host_start_tag namespace name) = 31 ∷ 30 ∷ 22 ∷ 20 ∷ 21 ∷ 25 ∷ 26 ∷ 27 ∷ 28 ∷ []
refusals_of (host_attributes self_closing input outlines) = 31 ∷ 30 ∷ 23 ∷ 24 ∷ 27 ∷ 28 ∷ []
refusals_of (host_end_tag name buffer) = 31 ∷ 30 ∷ 22 ∷ 20 ∷ 29 ∷ []
refusals_of host_ids_asked = 31 ∷ 30 ∷ []

-- Making a machine: 31 without a place; with one, these: 1 to 13, of the sheet, and 15. 14 is no number of 01.
abbrev pub sheet_refusals : List ℕ
sheet_refusals = 1 ∷ 2 ∷ 3 ∷ 4 ∷ 5 ∷ 6 ∷ 7 ∷ 8 ∷ 9 ∷ 10 ∷ 11 ∷ 12 ∷ 13 ∷ 15 ∷ []

abbrev pub making_refusals : List ℕ
making_refusals = 31 ∷ sheet_refusals
