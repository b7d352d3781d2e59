-- The program's turns over a trace: a reader whose bytes are the trace, a buffer that its blocks stand in, and a buffer of lines.
use Rattle.std.specs.Prelude.{◌≡◌, ◌≢◌, false, List, ◌++◌, ℕ, ◌<◌, Some, length, take, get_or}
use Rattle.stack.specs.Stores.{Stores}
use Rattle.block_ends.specs.declared.Halt.{Halt}
use Rattle.trace_blocks.specs.Progress.{Sound, run_of, advanced, Turned}
use Rattle.trace_blocks.specs.declared.Progress.{Progress}
use Rattle.trace_lines.specs.Lines.{text_of, lines_of}
use Rattle.trace_lines.specs.Cuttings.{Cutting}

-- Nothing is read yet.
abbrev pub at_start : Progress
at_start = record { at = 0; end = 0; place = 0; last = false; halt = Halt.Full }

module _ (sheet program : List ℕ) where
  -- One turn, as `turn` promises it: it runs over what the buffer holds, and reads on where more is wanted. `rest` is what the reader has left.
  pub record OneTurn (p : Progress) (input rest : List ℕ) (s : Stores) (out : List ℕ) (q : Progress) (input' rest' : List ℕ) : Type 0 where
    pub sound : Sound p (length input)
    pub block : length input ≡ 131072
    pub room : length out ≡ 65536
    pub value : let next = advanced p (run_of sheet program p input out s).fed in Turned next.halt (Some rest) (Some rest') next input q input'

  -- Turns until all is said, the text that they write, and the stores after them.
  pub data Turns : Progress → (input rest : List ℕ) → Stores → (text : List ℕ) → Stores → Type 0 where
    last_turn : {p : Progress} {input rest : List ℕ} {s : Stores} (out : List ℕ) (q : Progress) (input' rest' : List ℕ) → OneTurn p input rest s out q input' rest' → q.halt ≡ Halt.Over
        → Turns p input rest s (take (run_of sheet program p input out s).fed.wrote (run_of sheet program p input out s).out) (run_of sheet program p input out s).after
    next_turn : {p : Progress} {input rest : List ℕ} {s : Stores} {text : List ℕ} {after : Stores} (out : List ℕ) (q : Progress) (input' rest' : List ℕ) → OneTurn p input rest s out q input' rest' → q.halt ≢ Halt.Over
        → Turns q input' rest' (run_of sheet program p input out s).after text after
        → Turns p input rest s (take (run_of sheet program p input out s).fed.wrote (run_of sheet program p input out s).out ++ text) after

-- Turns over a trace of bytes cut it into blocks, however much each read brings.
abbrev pub TurnsAreACutting : Type 0
TurnsAreACutting =
    (sheet program trace input text : List ℕ) (s after : Stores) → ((i : ℕ) → get_or trace i 0 < 256)
    → Turns sheet program at_start input trace s text after → Cutting sheet program trace 0 s text after

-- So they write the text of its lines, and leave the stores after them.
abbrev pub TurnsWriteTheLines : Type 0
TurnsWriteTheLines =
    (sheet program trace input text : List ℕ) (s after : Stores) → ((i : ℕ) → get_or trace i 0 < 256)
    → Turns sheet program at_start input trace s text after → (text ≡ text_of (lines_of sheet program trace s).lines) × (after ≡ (lines_of sheet program trace s).after)
