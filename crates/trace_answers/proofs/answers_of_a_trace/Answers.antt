use Rattle.trace_answers.proofs.Answering.{lines-are-answers, traces-are-answered}
use Rattle.trace_answers.proofs.answers_of_a_trace.Goals as goal

pub returns : goal.returns
returns c = record { lines = lines-are-answers; answered = traces-are-answered }
