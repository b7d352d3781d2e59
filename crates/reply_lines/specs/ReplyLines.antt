-- The line of an answer of the machine (01, section 8).
use Rattle.std.specs.Prelude.{List, ℕ}
use Rattle.match_lines.specs.MatchLines.{match_line}
use Rattle.lines.specs.Lines.{attrs_line, pop_line, refused_line}
use Rattle.accepting.specs.Accepting.{Answer, Reply}
use Rattle.ends.specs.Ends.{Popped}

-- The line of an answer to a start tag or to attributes.
unfoldable pub answer_line : Answer → (ids : List ℕ) → List ℕ
answer_line (Answer.Match content) ids = match_line ids content
answer_line Answer.Attributes ids = attrs_line
answer_line (Answer.Refused n) ids = refused_line n

abbrev pub reply_line : Reply → List ℕ
reply_line r = answer_line r.answer r.ids

-- The line of an answer to an end tag.
unfoldable pub popped_line : Popped → List ℕ
popped_line (Popped.Elements n) = pop_line n
popped_line (Popped.Refused n) = refused_line n
