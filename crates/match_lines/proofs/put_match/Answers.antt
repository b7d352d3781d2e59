use mathlib.Core.Path.{◌≡◌}
use Rattle.match_lines.specs.MatchLines.{content_word}
use Rattle.match_lines.proofs.Laws.{match-put}
use Rattle.match_lines.proofs.put_match.Goals as goal
use Rattle.match_lines.proofs.put_match.Goals.{then-content, else-content}

pub returns-clause-wrote : goal.returns-clause-wrote
unfolding content_word
returns-clause-wrote c =
    let e : content_word c.args.content ≡ c.if-content.end.now = elim c.if-content.branch [
      | then-content w ↦ rw (w.if-content.true, w.end-is)
      | else-content w ↦ rw (w.if-content.false, w.end-is)
    ] in
    match-put _ _ _ _ _ c.args.content _ _ _ _ c.put_text-next.ensures.0 c.put_text-next.ensures.1 c.put_ids-next.ensures.wrote.0 c.put_ids-next.ensures.wrote.1 (rw e c.put_text.ensures.0) (rw e c.put_text.ensures.1)
