-- `bad_pair_place` meets its contract. The loop's invariant: the search from k on finds what the whole search finds. Assumes nothing.
use mathlib.Core.Path.{sym, ◌∙◌}
use Rattle.refusal.proofs.PlaceLaws.{first_over, first_here, first_more}
use Rattle.sheet.proofs.PairLaws.{pairs_unfit, pairs_fit}
use Rattle.sheet_check.proofs.pairs.bad_pair_place.Goals as goal

pub returns-then-number-pairs_end : goal.returns-then-number-pairs_end
returns-then-number-pairs_end c = sym (pairs_unfit _ (rw (← c.number.ensures.0, ← c.pairs_end.ensures.0) c.if-number-pairs_end.true))

pub loop-k-init : goal.loop-k-init
loop-k-init c = rw c.actions-k-end.ensures.0 (sym (pairs_fit _ (rw (← c.number.ensures.0, ← c.pairs_end.ensures.0) c.if-number-pairs_end.false)))

pub returns-then-bad_pair : goal.returns-then-bad_pair
returns-then-bad_pair c = sym (first_here _ _ _ c.loop-k-test.true (sym c.bad_pair.ensures ∙ c.if-bad_pair.true)) ∙ c.loop-k.invariant

pub loop-k-preserved : goal.loop-k-preserved
loop-k-preserved c = sym (first_more _ _ _ c.loop-k-test.true (sym c.bad_pair.ensures ∙ c.if-bad_pair.false)) ∙ c.loop-k.invariant

pub returns : goal.returns
returns c = sym (first_over _ _ _ c.loop-k-test.false) ∙ c.loop-k.invariant
