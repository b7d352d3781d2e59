use Rattle.trace_turns.proofs.Turns.{turns-cut, turns-write, turns-answered}
use Rattle.trace_turns.proofs.turns_of_a_trace.Goals as goal

pub returns : goal.returns
returns c = record { cutting = turns-cut; lines = turns-write; answered = turns-answered }
