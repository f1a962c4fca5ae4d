-- The supports of what a position needs, in a row of numbers for each position, one for each fact. Not to be believed:
-- proofs/PassTheorem ties them to the landmarks. Assumes nothing.
use Rattle.std.specs.Prelude.{ℕ, ◌+◌, ◌*◌, true, List, [], ◌∷◌, get_or, set}
use Rattle.sas.specs.Task.{Assignment}
use Rattle.reduction.specs.Reduction.{Reduction}
use Rattle.sheet.specs.Limits.{limits}
use Rattle.sheet.specs.Between.Encode.{fact_word}
use Rattle.plan.specs.Limits.{most_steps}
use Rattle.trace.specs.Between.Traces.{trace_start}

-- the positions of the longest plan, with start and end
abbrev pub most_positions : ℕ
most_positions = most_steps + 2

-- where the row of position j begins
abbrev pub row_start : ℕ → ℕ
row_start j = j * limits.variables

-- the supports of an assignment's facts, by the table of traces, noted from place i on
unfoldable pub supports_noted : List ℕ → ℕ → Assignment → List ℕ → List ℕ
supports_noted traces i [] rows = rows
supports_noted traces i (f ∷ e) rows =
    supports_noted traces (i + 1) e (set rows i (get_or traces (trace_start (fact_word f) + 1) 0))

-- the flags with those raised that stand from place i on, one for each fact of an assignment
unfoldable pub row_raised : List ℕ → ℕ → Assignment → Reduction → Reduction
row_raised rows i [] m = m
row_raised rows i (f ∷ e) m = row_raised rows (i + 1) e (set m (get_or rows i 0) true)
