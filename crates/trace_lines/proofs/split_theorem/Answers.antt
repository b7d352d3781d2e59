use Rattle.trace_lines.proofs.Cutting.{front, whole}
use Rattle.trace_lines.proofs.Stops.{stopping}
use Rattle.trace_lines.proofs.split_theorem.Goals as goal

pub returns : goal.returns
returns c = record { split = front; stopping = stopping; whole = whole }
