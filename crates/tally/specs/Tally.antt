-- A tally of cost (document 01: price) and steps. Assumes nothing.
use Rattle.std.specs.Prelude.{ℕ, ◌+◌, cond, ◌&&◌, List, [], ◌∷◌, ltb, leb}
use Rattle.tally.specs.declared.Tally.{Tally}
use Rattle.std.specs.declared.cmp.Ordering.{Ordering}
use Rattle.std.specs.declared.cmp.Ordering.TheVariants.{Less, Equal, Greater}

-- the most that a tally counts up to, stated here and nowhere else in the definitions
abbrev pub bounds : Tally
bounds = record { cost = 255000000; steps = 255 }

-- the tally of no step
abbrev pub nothing : Tally
nothing = record { cost = 0; steps = 0 }

-- one step more; unchanged when it already has 255 steps or more, or its price would pass 255,000,000
unfoldable pub one_more : Tally → ℕ → Tally
one_more t c =
    cond (ltb t.steps bounds.steps && leb (t.cost + c) bounds.cost)
    (record { cost = t.cost + c; steps = t.steps + 1 })
    t

-- the tally after one step more for each of these costs, in turn
unfoldable pub after : Tally → List ℕ → Tally
after t [] = t
after t (c ∷ costs) = after (one_more t c) costs

-- the lower of the two costs, then of the two numbers of steps
unfoldable pub comparison : Tally → Tally → Ordering
comparison a b =
    cond (ltb a.cost b.cost) Less
    (cond (ltb b.cost a.cost) Greater
    (cond (ltb a.steps b.steps) Less
    (cond (ltb b.steps a.steps) Greater Equal)))
