-- The tables of a walk along a plan: two numbers for each fact, and three for each variable. Not to be believed:
-- proofs/TraceTheorem ties them to the trace of each fact. Assumes nothing.
use Rattle.std.specs.Prelude.{ℕ, zero, suc, ◌+◌, ◌*◌, ◌/◌, ◌%◌, Bool, cond, List, [], ◌∷◌, get_or, set, replicate, ltb, eqb}
use Rattle.sas.specs.Task.{Assignment}
use Rattle.sheet.specs.Limits.{limits}
use Rattle.sheet.specs.Between.Encode.{fact_word}

-- where the numbers of the fact with word x stand: its last writer, and behind it its support
abbrev pub trace_start : ℕ → ℕ
trace_start x = 2 * x

-- where those of variable v stand: the fact that its last marked writer wrote, one more than the position of that
-- writer, and one more than that of the last marked step that wrote another value
abbrev pub latest_start : ℕ → ℕ
latest_start v = 3 * v

-- one more than the position of the last marked step that wrote another value to the variable of the fact x
unfoldable pub until_at : List ℕ → ℕ → ℕ
until_at latest x =
    let v : ℕ = latest_start (x / limits.values) in
    cond (eqb (get_or latest v 0) x) (get_or latest (v + 2) 0) (get_or latest (v + 1) 0)

-- the support of a fact that the step at position j writes
unfoldable pub supporting : ℕ → ℕ → ℕ → ℕ
supporting last until j = cond (ltb last until) j 0

-- the traces behind the step at position j, which writes the fact x, where `latest` has what the steps before it wrote:
-- its support and its last writer, as they are where it is its last writer already
unfoldable pub trace_wrote : ℕ → List ℕ → ℕ → List ℕ → List ℕ
trace_wrote j latest x traces =
    let i : ℕ = trace_start x in
    cond (eqb (get_or traces i 0) j) traces
    (set (set traces (i + 1) (supporting (get_or traces i 0) (until_at latest x) j)) i j)

-- and which writes the facts of an assignment
unfoldable pub traces_wrote : ℕ → List ℕ → Assignment → List ℕ → List ℕ
traces_wrote j latest [] traces = traces
traces_wrote j latest (f ∷ e) traces = traces_wrote j latest e (trace_wrote j latest (fact_word f) traces)

-- the words of the variables behind a marked step at position j that writes the fact x
unfoldable pub latest_wrote : ℕ → ℕ → List ℕ → List ℕ
latest_wrote j x latest =
    let v : ℕ = latest_start (x / limits.values) in
    set (set (set latest v x) (v + 1) (j + 1)) (v + 2) (until_at latest x)

-- and that writes the facts of an assignment
unfoldable pub latest_each : ℕ → Assignment → List ℕ → List ℕ
latest_each j [] latest = latest
latest_each j (f ∷ e) latest = latest_each j e (latest_wrote j (fact_word f) latest)

-- both tables
pub record Tables : Type 0 where
  pub traces : List ℕ
  pub latest : List ℕ

abbrev pub tables : List ℕ → List ℕ → Tables
tables traces latest = record { traces = traces; latest = latest }

-- behind the step at position j, which may write the facts of one assignment and always writes those of another: all
-- supports are told by what the steps before it wrote
unfoldable pub wrote_each : ℕ → Bool → Assignment → Assignment → Tables → Tables
wrote_each j marked may always t =
    tables (traces_wrote j t.latest may t.traces) (cond marked (latest_each j always t.latest) t.latest)

-- the words of the first n variables behind the start step, which writes these values at position 0; zeros for the rest
unfoldable pub started : List ℕ → ℕ → List ℕ
started values zero = replicate (latest_start limits.variables) 0
started values (suc n) =
    set (set (started values n) (latest_start n) (n * limits.values + get_or values n 0 % limits.values))
    (latest_start n + 1) 1
