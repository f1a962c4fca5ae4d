-- The two turns meet their contracts: each way through them is a law of TurnsLaws, and the number of unflagged steps left falls at each call. Assumes nothing.
use native.Mathlib.Omega.{arith}
use mathlib.Core.Path.{◌∙◌}
use Rattle.choice_rows.specs.Between.Rows.{no_choice}
use Rattle.turns.proofs.TurnsLaws.{both_told, kept_to_end, not_lower_at_end, lower_at_end, not_struck, struck_on, not_lower_kept, not_able, not_useful, kept_on}
use Rattle.turns.proofs.turns.+keep_strike.Goals.{keep-then-not-is_lower-via-then-not-is_lower, keep-then-not-is_lower-via-else-not-is_lower+then-not-holds}
use Rattle.turns.proofs.turns.+keep_strike.Goals as goal

pub keep-returns-then-not-is_lower : goal.keep-returns-then-not-is_lower
keep-returns-then-not-is_lower t c =
    let read = c.in-Some.ensures.lookup.4 (omega arith) no_choice in
    elim c.then-not-is_lower.branch [
      | keep-then-not-is_lower-via-then-not-is_lower w ↦ not_lower_kept _ _ _ _ _ c.in-Some.ensures.lookup.3.0 _ read _ _ c.keep_step-with.ensures.0
          c.keep_step-with.ensures.1 c.is_lower.ensures w.if-not-is_lower.true
      | keep-then-not-is_lower-via-else-not-is_lower+then-not-holds w ↦ not_able _ _ _ _ _ c.in-Some.ensures.lookup.3.0 _ read _ _ c.keep_step-with.ensures.0
          c.keep_step-with.ensures.1 c.is_lower.ensures _ w.holds.ensures w.if-not-holds.true
    ]

pub keep-returns-then-holds : goal.keep-returns-then-holds
keep-returns-then-holds t c =
    not_useful _ _ _ _ _ c.in-Some.ensures.lookup.3.0 _ (c.in-Some.ensures.lookup.4 (omega arith) no_choice) _ _ c.keep_step-with.ensures.0
    c.keep_step-with.ensures.1 c.is_lower.ensures _ c.holds.ensures _ c.holds-in-Some.ensures c.if-holds.true

pub keep-returns-in-Some : goal.keep-returns-in-Some
keep-returns-in-Some t c =
    kept_on _ _ _ _ _ c.in-Some.ensures.lookup.3.0 _ (c.in-Some.ensures.lookup.4 (omega arith) no_choice) _ _ c.keep_step-with.ensures.0
    c.keep_step-with.ensures.1 c.is_lower.ensures _ c.holds.ensures _ c.holds-in-Some.ensures _ _ c.if-not-is_lower.false c.if-not-holds.false c.if-holds.false
    c.write_over-next.ensures (both_told _ _ _ _ _ _ _ c.strike-struck.ensures c.keep.ensures)

pub keep-returns : goal.keep-returns
keep-returns t c = kept_to_end _ _ _ _ _ c.in_default.ensures.lookup.3

pub strike-returns-then-not-holds : goal.strike-returns-then-not-holds
strike-returns-then-not-holds t c =
    not_struck _ _ _ _ _ c.in-Some.ensures.lookup.3.0 _ (c.in-Some.ensures.lookup.4 (omega arith) no_choice) _ c.holds.ensures c.if-not-holds.true

pub strike-returns-in-Some : goal.strike-returns-in-Some
strike-returns-in-Some t c =
    struck_on _ _ _ _ _ c.in-Some.ensures.lookup.3.0 _ (c.in-Some.ensures.lookup.4 (omega arith) no_choice) _ c.holds.ensures _ _ c.if-not-holds.false
    c.write_over-next.ensures (both_told _ _ _ _ _ _ _ c.strike-struck.ensures c.keep.ensures)

pub strike-returns-then-is_lower : goal.strike-returns-then-is_lower
strike-returns-then-is_lower t c = lower_at_end _ _ _ _ _ c.in_default.ensures.lookup.3 _ c.is_lower.ensures c.if-is_lower.true

pub strike-returns : goal.strike-returns
strike-returns t c = not_lower_at_end _ _ _ _ _ c.in_default.ensures.lookup.3 _ c.is_lower.ensures c.if-is_lower.false
