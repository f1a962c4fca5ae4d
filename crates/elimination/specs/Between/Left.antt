-- What the two eliminations leave of a list as it is computed. `rule_leaves` says that it is what their rules leave,
-- and nothing else. Assumes nothing.
use Rattle.std.specs.Prelude.{ℕ, List}
use Rattle.sheet.specs.Decode.{goal, initial}
use Rattle.plan.specs.Valid.{steps}
use Rattle.reduction.specs.Reduction.{Reduction}
use Rattle.reduction.specs.Between.Elimination.{eliminate, greedy}
use Rattle.elimination.specs.declared.single.Elimination.{Elimination}
use Rattle.elimination.specs.declared.single.Elimination.TheVariants.{Plain, Greedy}

-- what elimination leaves of the list l of the sheet w, and what greedy elimination leaves
abbrev pub elimination_of : List ℕ → List ℕ → Reduction
elimination_of w l = eliminate (initial w) (goal w) (steps w l)

abbrev pub greedy_elimination_of : List ℕ → List ℕ → Reduction
greedy_elimination_of w l = greedy (initial w) (goal w) (steps w l)

-- what one of the two leaves
abbrev pub left_by : Elimination → List ℕ → List ℕ → Reduction
left_by Plain w l = elimination_of w l
left_by Greedy w l = greedy_elimination_of w l
