use Prim.Native.Nat.{◌+◌, ◌*◌, ◌-◌, ◌≤◌}
use mathlib.Core.Path.{◌≡◌}
use lib.ListN.{length}
use Rattle.id_sets.specs.Ids.{ids_of}
use Rattle.cells.specs.Stretches.{written}
use Rattle.match_lines.specs.MatchLines.{ids_text}
use Rattle.match_lines.proofs.Laws.{Rest}
use Rattle.match_lines.proofs.put_ids.Given as goal

abbrev pub invariant-loop-id : goal.invariant-loop-id
invariant-loop-id l = record {
  long : length l.out ≡ length l.initial.out;
  below_all : l.from ≤ 65536;
  below_words : l.from ≤ 64 * length l.words;
  room : l.next ≤ l.at + 21 * l.from;
  place : l.at + length (ids_text (ids_of l.words)) ≡ l.next + length (Rest l.words l.from);
  text : written l.initial.out l.at (ids_text (ids_of l.words)) ≡ written l.out l.next (Rest l.words l.from);
}

abbrev pub decreases-loop-id : goal.decreases-loop-id
decreases-loop-id l = 65536 - l.from
