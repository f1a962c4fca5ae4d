-- The job sheets of document 01, "Worked lists", as words: the header, the pairs, the domain sizes, the starting
-- values, the goal, and an action to a line. Assumes nothing.
use Rattle.std.specs.Prelude.{ℕ, List, [], ◌∷◌}

-- sheet P, as document 01 prints it: lift, drain, drop, lamp
abbrev pub sheet_p : List ℕ
sheet_p =
    1 ∷ 3 ∷ 4 ∷ 41
    ∷ 18 ∷ 3 ∷ 21 ∷ 3 ∷ 24 ∷ 2 ∷ 26 ∷ 4 ∷ 30 ∷ 4 ∷ 34 ∷ 4 ∷ 38 ∷ 3
    ∷ 2 ∷ 2 ∷ 2
    ∷ 0 ∷ 0 ∷ 0
    ∷ 0 ∷ 257
    ∷ 5 ∷ 1 ∷ 0 ∷ 1
    ∷ 2 ∷ 1 ∷ 1 ∷ 257
    ∷ 5 ∷ 1 ∷ 1 ∷ 0
    ∷ 1 ∷ 0 ∷ 513
    ∷ []

-- "P with goal gate 0 alone": one word less, so that all that stands behind the goal stands one word earlier
abbrev pub gate_alone : List ℕ
gate_alone =
    1 ∷ 3 ∷ 4 ∷ 40
    ∷ 18 ∷ 3 ∷ 21 ∷ 3 ∷ 24 ∷ 1 ∷ 25 ∷ 4 ∷ 29 ∷ 4 ∷ 33 ∷ 4 ∷ 37 ∷ 3
    ∷ 2 ∷ 2 ∷ 2
    ∷ 0 ∷ 0 ∷ 0
    ∷ 0
    ∷ 5 ∷ 1 ∷ 0 ∷ 1
    ∷ 2 ∷ 1 ∷ 1 ∷ 257
    ∷ 5 ∷ 1 ∷ 1 ∷ 0
    ∷ 1 ∷ 0 ∷ 513
    ∷ []

-- "One variable starting at 0, goal value 1, two actions without preconditions that each set it to 1, prices 1 and 9"
abbrev pub two_writers : List ℕ
two_writers =
    1 ∷ 1 ∷ 2 ∷ 23
    ∷ 14 ∷ 1 ∷ 15 ∷ 1 ∷ 16 ∷ 1 ∷ 17 ∷ 3 ∷ 20 ∷ 3
    ∷ 2
    ∷ 0
    ∷ 1
    ∷ 1 ∷ 0 ∷ 1
    ∷ 9 ∷ 0 ∷ 1
    ∷ []

-- "Goals u and v, both unmet, and no preconditions. Action 0 gives u, price 4; 1 gives both, price 6; 2 gives v, price
-- 4": u is variable 0, v is variable 1
abbrev pub one_for_both : List ℕ
one_for_both =
    1 ∷ 2 ∷ 3 ∷ 32
    ∷ 16 ∷ 2 ∷ 18 ∷ 2 ∷ 20 ∷ 2 ∷ 22 ∷ 3 ∷ 25 ∷ 4 ∷ 29 ∷ 3
    ∷ 2 ∷ 2
    ∷ 0 ∷ 0
    ∷ 1 ∷ 257
    ∷ 4 ∷ 0 ∷ 1
    ∷ 6 ∷ 0 ∷ 1 ∷ 257
    ∷ 4 ∷ 0 ∷ 257
    ∷ []
