-- The passes that find the landmarks: a walk along the positions of a plan, and one back. Not to be believed:
-- proofs/PassTheorem ties them to the landmarks. Assumes nothing.
use Rattle.std.specs.Prelude.{ℕ, zero, suc, ◌+◌, ◌-◌, true, false, cond, List, [], ◌∷◌, ◌++◌, length, get_or, take, drop, set, replicate}
use Rattle.sas.specs.Task.{Action}
use Rattle.sas.specs.Plan.{written, written_always, needed}
use Rattle.reduction.specs.Reduction.{Reduction}
use Rattle.reduction.specs.Landmark.{step, framed}
use Rattle.reduction.specs.Between.Landmarks.{supported}
use Rattle.sheet.specs.Decode.{initial, goal}
use Rattle.plan.specs.Limits.{most_steps}
use Rattle.plan.specs.Valid.{steps}
use Rattle.trace.specs.Between.Traces.{Tables, tables, wrote_each}
use Rattle.landmark.specs.Between.Rows.{most_positions, row_start, supports_noted, row_raised}

-- the list l of the sheet w with its start step and its end step
abbrev pub framed_list : List ℕ → List ℕ → List Action
framed_list w l = framed (initial w) (goal w) (steps w l)

-- the tables of the walk along the positions
pub record Walk : Type 0 where
  pub traces : List ℕ
  pub latest : List ℕ
  pub rows : List ℕ

abbrev pub walk_tables : List ℕ → List ℕ → List ℕ → Walk
walk_tables traces latest rows = record { traces = traces; latest = latest; rows = rows }

-- behind the step a at position j: its needs are noted before its effect is written
unfoldable pub walked_step : Reduction → ℕ → Action → Walk → Walk
walked_step m j a t =
    let behind : Tables = wrote_each j (get_or m j false) (written a) (written_always a) (tables t.traces t.latest) in
    walk_tables behind.traces behind.latest (supports_noted t.traces (row_start j) (needed a) t.rows)

-- behind the steps p, of which the first is at position j and m has the marked positions
unfoldable pub walked : Reduction → ℕ → List Action → Walk → Walk
walked m j [] t = t
walked m j (a ∷ p) t = walked m (j + 1) p (walked_step m j a t)

-- the flags with the supports of what each marked position before j needs, from the last to the first; they stand in
-- rows
unfoldable pub closed : List ℕ → List Action → ℕ → Reduction → Reduction
closed rows q zero m = m
closed rows q (suc j) m =
    closed rows q j (cond (get_or m j false) (row_raised rows (row_start j) (needed (step q j)) m) m)

-- the same by the traces of the facts, where the marks before the pass are those of m
unfoldable pub pass_from : List Action → Reduction → ℕ → Reduction → Reduction
pass_from q m zero n = n
pass_from q m (suc j) n = pass_from q m j (cond (get_or n j false) (supported q m j n) n)

-- one pass along the positions q
abbrev pub pass : List Action → Reduction → Reduction
pass q m = pass_from q m (length q) m

-- start and end of a plan of n steps alone, among the flags of all positions that a plan may have
abbrev pub ends_up : ℕ → Reduction
ends_up n = set (set (replicate most_positions false) 0 true) (n + 1) true

-- the flags of n steps among those of the positions, in a flag for each step that a plan may have
abbrev pub steps_held : ℕ → Reduction → Reduction
steps_held n m = take n (drop 1 m) ++ replicate (most_steps - n) false
