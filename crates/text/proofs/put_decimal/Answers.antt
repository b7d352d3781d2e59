use Rattle.text.proofs.Laws.{put-twenty}
use Rattle.text.proofs.put_decimal.Goals as goal

pub returns : goal.returns
returns c = put-twenty _ _ _ _ _ c.put_digits.ensures
