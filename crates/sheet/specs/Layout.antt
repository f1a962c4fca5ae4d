-- Where the parts of a task stand among its words (document 01, "The job sheet"). A word past the end reads as 0; in an
-- accepted task none is read. Assumes nothing.
use Rattle.std.specs.Prelude.{ℕ, ◌+◌, ◌*◌, min, Bool, List, get_or, eqb}

abbrev pub word : List ℕ → ℕ → ℕ
word w i = get_or w i 0

-- word 0, the edition
abbrev pub edition : List ℕ → ℕ
edition w = word w 0

-- the edition of document 01, and that of document 02, C-15, whose effects have conditions
abbrev pub first_edition : ℕ
first_edition = 1

abbrev pub second_edition : ℕ
second_edition = 2

abbrev pub has_conditions : List ℕ → Bool
has_conditions w = eqb (edition w) second_edition

-- word 1, 01's V
abbrev pub variables : List ℕ → ℕ
variables w = word w 1

-- word 2, 01's A
abbrev pub actions : List ℕ → ℕ
actions w = word w 2

-- word 3, 01's N
abbrev pub stated_length : List ℕ → ℕ
stated_length w = word w 3

-- the words before the pairs, which every sheet has
abbrev pub header : ℕ
header = 4

-- the number of pairs of offset and length
abbrev pub pairs : List ℕ → ℕ
pairs w = 3 + actions w

-- where the pairs end
abbrev pub pairs_end : List ℕ → ℕ
pairs_end w = header + 2 * pairs w

-- the offset in pair k
abbrev pub offset : List ℕ → ℕ → ℕ
offset w k = word w (header + 2 * k)

-- the length in pair k
abbrev pub size : List ℕ → ℕ → ℕ
size w k = word w (header + 2 * k + 1)

-- where the part of pair k ends
abbrev pub part_end : List ℕ → ℕ → ℕ
part_end w k = offset w k + size w k

-- pair 0: the domain size of variable v
abbrev pub domain : List ℕ → ℕ → ℕ
domain w v = word w (offset w 0 + v)

-- pair 1: the starting value of variable v
abbrev pub start : List ℕ → ℕ → ℕ
start w v = word w (offset w 1 + v)

-- pair 2: the goal
abbrev pub goal_start : List ℕ → ℕ
goal_start w = offset w 2

abbrev pub goal_end : List ℕ → ℕ
goal_end w = part_end w 2

-- pair 3 + a: the part of action a is its cost, its number of precondition facts, those facts, and its effects up to the
-- end: in edition 1 a fact each
abbrev pub cost_word : List ℕ → ℕ → ℕ
cost_word w a = word w (offset w (3 + a))

abbrev pub precondition_count : List ℕ → ℕ → ℕ
precondition_count w a = word w (offset w (3 + a) + 1)

abbrev pub precondition_start : List ℕ → ℕ → ℕ
precondition_start w a = offset w (3 + a) + 2

abbrev pub effect_start : List ℕ → ℕ → ℕ
effect_start w a = offset w (3 + a) + 2 + precondition_count w a

abbrev pub effect_end : List ℕ → ℕ → ℕ
effect_end w a = part_end w (3 + a)

-- in edition 2 an effect is its number of condition facts, those facts, and its own fact. That one stands behind the
-- others, for the effect at word i of a part that ends at word `end`: in an accepted sheet before the end, and never
-- past it
abbrev pub effect_fact : List ℕ → ℕ → ℕ → ℕ
effect_fact w end i = min (i + 1 + word w i) end
