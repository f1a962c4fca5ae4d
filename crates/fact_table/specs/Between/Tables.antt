-- Tables with an entry for each fact, at the fact's word. Not to be believed: proofs/WantsLaws ties them to the facts
-- that are wanted. Assumes nothing.
use Rattle.std.specs.Prelude.{ℕ, ◌*◌, Bool, true, false, cond, List, [], ◌∷◌, get_or, set, replicate}
use Rattle.sas.specs.Task.{Assignment, Action}
use Rattle.sas.specs.Plan.{written, needed}
use Rattle.sheet.specs.Limits.{limits}
use Rattle.sheet.specs.Decode.{goal}
use Rattle.sheet.specs.Between.Encode.{fact_word}

-- the facts for which a table has room
abbrev pub most_facts : ℕ
most_facts = limits.variables * limits.values

-- a table with x at each fact of an assignment
unfoldable pub stamped : List Bool → Assignment → Bool → List Bool
stamped t [] x = t
stamped t (f ∷ q) x = stamped (set t (fact_word f) x) q x

-- a table has the fact that is word x
unfoldable pub has_fact : List Bool → ℕ → Bool
has_fact t x = get_or t x false

-- the wanted facts before a step that needs and may write these, from those behind it
unfoldable pub passed_back : List Bool → Assignment → Assignment → Bool → List Bool
passed_back t needs writes flagged =
    cond flagged (stamped (stamped t writes false) needs true) (stamped t writes false)

-- the same of an action
abbrev pub wanted_before : List Bool → Action → Bool → List Bool
wanted_before t a flagged = passed_back t (needed a) (written a) flagged

-- the table that has just the goal's facts
unfoldable pub goal_table : List ℕ → List Bool
goal_table w = stamped (replicate most_facts false) (goal w) true
