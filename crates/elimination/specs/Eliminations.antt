-- What the two eliminations of document 01 leave of a list, and what each answers as a service. Assumes nothing.
use Rattle.std.specs.Prelude.{ℕ, ◌≡◌, ◌↔◌, List, length}
use Rattle.refusal.specs.Check.{answer}
use Rattle.sheet.specs.Decode.{goal, initial}
use Rattle.plan.specs.Checked.{Answer}
use Rattle.plan.specs.Valid.{steps}
use Rattle.reduction.specs.Reduction.{Reduction, whole}
use Rattle.reduction.specs.Trials.{EliminationLeaves, GreedyLeaves}
use Rattle.reduced.specs.Reduced.{reduction_checks, TellsLeft, Reduces}
use Rattle.elimination.specs.declared.single.Elimination.{Elimination}
use Rattle.elimination.specs.declared.single.Elimination.TheVariants.{Plain, Greedy}

-- one of the two leaves the reduction m of the list by its written rule, trial by trial or round by round
abbrev pub LeftByRule : Elimination → List ℕ → List ℕ → Reduction → Type 0
LeftByRule Plain w l m = EliminationLeaves (initial w) (goal w) (steps w l) 0 (whole (steps w l)) m
LeftByRule Greedy w l m = GreedyLeaves (initial w) (goal w) (steps w l) (whole (steps w l)) m

-- the written rule leaves m, and nothing else
abbrev pub RuleLeaves : Elimination → List ℕ → List ℕ → Reduction → Type 0
RuleLeaves by w l m = (n : Reduction) → n ≡ m ↔ LeftByRule by w l n

-- the service: it answers with what the rule leaves, which is one reduction (`rule_leaves`)
abbrev pub Eliminates : Elimination → List ℕ → List ℕ → List ℕ → Answer → List ℕ → List ℕ → Type 0
Eliminates by w l before given mask after =
    TellsLeft (LeftByRule by w l) (λ m. Reduces w l m before given mask after)
    (answer (reduction_checks w l (length before)))
