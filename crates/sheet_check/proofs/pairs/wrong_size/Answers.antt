-- `wrong_size` meets its contract: each return is decided by the tests that led there. Assumes nothing.
use Prim.Native.Nat.{ℕ, ◌<◌}
use native.Mathlib.Omega.{arith}
use Rattle.sheet.specs.Causes.{wrong_size}
use Rattle.sheet_check.proofs.PastLaws.{no_header, no_needs, no_effects}
use borrow.Author.Tests.{le-ltb, lt-ltb, lt-leb, eq-eqb, ne_eqb}
use mathlib.Core.Path.{sym}
use Rattle.sheet_check.proofs.pairs.wrong_size.Goals as goal

below-three : (k : ℕ) → k < 2 → k < 3
below-three k h = omega arith

pub returns-then-words-variables : goal.returns-then-words-variables
unfolding wrong_size
returns-then-words-variables c = simp (lt-leb 3 _ (below-three _ c.if-k-lt-GOAL.true), sym c.size-words.ensures.0, lt-ltb _ _ c.if-k-lt-GOAL.true, sym c.variables.ensures.0, eq-eqb _ _ c.if-words-variables.true)

pub returns-then-k-lt-GOAL : goal.returns-then-k-lt-GOAL
unfolding wrong_size
returns-then-k-lt-GOAL c = simp (lt-leb 3 _ (below-three _ c.if-k-lt-GOAL.true), sym c.size-words.ensures.0, lt-ltb _ _ c.if-k-lt-GOAL.true, sym c.variables.ensures.0, ne_eqb _ _ c.if-words-variables.false)

pub returns-then-k-lt-FIRST_ACTION : goal.returns-then-k-lt-FIRST_ACTION
unfolding wrong_size
returns-then-k-lt-FIRST_ACTION c = simp (sym c.size-words.ensures.0, le-ltb _ _ c.if-k-lt-GOAL.false, lt-leb _ _ c.if-k-lt-FIRST_ACTION.true)

pub returns-then-words-lt-ACTION_HEADER : goal.returns-then-words-lt-ACTION_HEADER
returns-then-words-lt-ACTION_HEADER c = no_header _ _ _ c.if-k-lt-FIRST_ACTION.false c.size-words.ensures.0 c.if-words-lt-ACTION_HEADER.true

pub returns-then-words-needed : goal.returns-then-words-needed
returns-then-words-needed c =
    let start = c in
    no_needs _ _ _ start.if-k-lt-FIRST_ACTION.false start.size-words.ensures.0 _ _ c.offset-from.ensures.0 c.number-needed.ensures.0 start.if-words-lt-ACTION_HEADER.false c.if-words-needed.true

pub returns : goal.returns
returns c =
    let start = c in
    no_effects _ _ _ start.if-k-lt-FIRST_ACTION.false start.size-words.ensures.0 _ _ c.offset-from.ensures.0 c.number-needed.ensures.0 start.if-words-lt-ACTION_HEADER.false _
    c.if-words-needed.false c.past_part.ensures
