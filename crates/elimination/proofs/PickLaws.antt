-- The best of a round, position by position: the better of the best so far and the trial here is the best of the definitions so far. By whether the trial
-- succeeds, whether there was a success before it, and which is the lower. Assumes nothing.
use Prim.Native.Nat.{ℕ, suc, ◌+◌, ◌<◌}
use native.Mathlib.Numerals.{add-one}
use mathlib.Core.Path.{◌≡◌, refl, sym, ◌∙◌, ap}
use mathlib.Core.Bool.{Bool, true, false, cond, true≢false}
use mathlib.Core.Option.{Option, none, some}
use mathlib.Core.List.{List}
use lib.ListN.{length, get_or}
use Rattle.tally.specs.Tally.{nothing, comparison}
use Rattle.sheet.specs.Decode.{initial, goal}
use Rattle.step.specs.Between.Advance.{Advances}
use Rattle.plan.specs.Valid.{steps}
use Rattle.reduction.specs.Reduction.{Reduction, kept, Before}
use Rattle.reduction.specs.Between.Order.{lower}
use Rattle.reduction.specs.Between.Elimination.{trial, better, best}
use Rattle.reduction.proofs.trials.TrialLaws.{unkept_fails}
use Rattle.elimination.specs.declared.greedy.Best.{Best}
use Rattle.trial.specs.declared.Tried.{Tried}
use Rattle.trial.specs.Between.Walk.{Balanced}
use Rattle.trial.specs.Between.Trial.{MakesTrial}
use Rattle.reduced.specs.Between.Held.{mask}
use Rattle.trial.specs.Between.Current.{Current}
use Rattle.std.specs.Ordering.{is_lt}
use Rattle.elimination.specs.Between.Round.{replaces, better_of, Picks, Looks}
use Rattle.trial.proofs.CurrentLaws.{mask_length, trial_met, trial_unmet, left_mask, left_current, unkept, passed_over, advanced}
use Rattle.trial.proofs.BalanceLaws.{balanced_mask, readable_fits, more_struck}
use Rattle.plan.specs.Readable.{Readable}

module _ (w l : List ℕ) (m : Reduction) (i : ℕ) where
  -- a trial that fails changes nothing
  best_same : trial (initial w) (goal w) (steps w l) m i ≡ none → best (initial w) (goal w) (steps w l) m (suc i) ≡ best (initial w) (goal w) (steps w l) m i
  unfolding best better
  best_same e = rw e (by_case (best (initial w) (goal w) (steps w l) m i))
    where
      by_case : (b : Option Reduction) → better (steps w l) b none ≡ b
      by_case none = refl
      by_case (some k) = refl

  -- the first success is the best so far
  best_first : (k : Reduction) → best (initial w) (goal w) (steps w l) m i ≡ none → trial (initial w) (goal w) (steps w l) m i ≡ some k → best (initial w) (goal w) (steps w l) m (suc i) ≡ some k
  unfolding best better
  best_first k e t = rw (e, t)

  -- of two successes the lower, the earlier where they are equal
  best_second : (k n : Reduction) (b : Bool) → best (initial w) (goal w) (steps w l) m i ≡ some n → trial (initial w) (goal w) (steps w l) m i ≡ some k
      → lower (kept k (steps w l)) (kept n (steps w l)) ≡ b → best (initial w) (goal w) (steps w l) m (suc i) ≡ cond b (some k) (some n)
  unfolding best better
  best_second k n b e t is = rw (e, t, is)

  same_picks : (so_far : Best) → Picks w l m i so_far → best (initial w) (goal w) (steps w l) m (suc i) ≡ best (initial w) (goal w) (steps w l) m i → Picks w l m (suc i) so_far
  same_picks so_far picks e =
      record { nothing_found = λ f. e ∙ picks.nothing_found f; best_found = λ f. e ∙ picks.best_found f; current = picks.current; balanced = picks.balanced }

module _ (w l : List ℕ) (readable : Readable w l) (flags : Reduction) (current : Current w l flags) (i : ℕ) (values : List ℕ) (here : i < length l)
    (before : Before (initial w) (steps w l) (mask l flags) i values) where
  module _ (so_far : Best) (tried : Tried) (picks : Picks w l (mask l flags) i so_far) (tries : MakesTrial w l i flags values tried.succeeds tried.flags tried.struck) (up : get_or flags i false ≡ true) where
    chosen : Best
    chosen = record { found = true; flags = tried.flags; struck = tried.struck }

    so_far_stays : replaces so_far tried ≡ false → better_of so_far tried ≡ so_far
    unfolding better_of
    so_far_stays e = rw e

    module _ (succeeds : tried.succeeds ≡ true) where
      tried_here : trial (initial w) (goal w) (steps w l) (mask l flags) i ≡ some (mask l tried.flags)
      tried_here = trial_met w l flags current i values here before tried.succeeds tried.flags tried.struck tries up succeeds ∙ ap some (sym (left_mask w l flags current i values here before tried.succeeds tried.flags tried.struck tries))

      tried_current : Current w l tried.flags
      tried_current = left_current w l flags current i values here before tried.succeeds tried.flags tried.struck tries up succeeds

      tried_balanced : Balanced w l (mask l flags) (mask l tried.flags) nothing tried.struck
      tried_balanced = balanced_mask w l flags tried.flags tried.struck (tries.balanced up (readable_fits w l flags readable (mask_length w l flags current)))

      chosen_picks : best (initial w) (goal w) (steps w l) (mask l flags) (suc i) ≡ some (mask l tried.flags) → Picks w l (mask l flags) (suc i) chosen
      unfolding chosen
      chosen_picks e =
          record { nothing_found = λ f. absurd (true≢false f); best_found = λ f. e; current = λ f. tried_current; balanced = λ f. tried_balanced }

      -- the two are compared by what they strike, and so by what they leave
      less : so_far.found ≡ true → is_lt (comparison so_far.struck tried.struck) ≡ lower (kept (mask l tried.flags) (steps w l)) (kept (mask l so_far.flags) (steps w l))
      less found = more_struck w l (mask l flags) (mask l tried.flags) (mask l so_far.flags) tried.struck so_far.struck tried_balanced (picks.balanced found)

      picks_second : (r : Best) (b : Bool) → r ≡ better_of so_far tried → so_far.found ≡ true → is_lt (comparison so_far.struck tried.struck) ≡ b
          → Picks w l (mask l flags) (suc i) r
      unfolding better_of replaces chosen
      picks_second r true is found e =
          rw (is, succeeds, found, e) (chosen_picks (best_second w l (mask l flags) i (mask l tried.flags) (mask l so_far.flags) true (picks.best_found found) tried_here (sym (less found) ∙ e)))
      picks_second r false is found e =
          let stays : replaces so_far tried ≡ false = rw (succeeds, found, e) in
          let same : r ≡ so_far = is ∙ so_far_stays stays in
          rw same
          (same_picks w l (mask l flags) i so_far picks
          (best_second w l (mask l flags) i (mask l tried.flags) (mask l so_far.flags) false (picks.best_found found) tried_here (sym (less found) ∙ e) ∙ sym (picks.best_found found)))

      picks_first : (r : Best) → r ≡ better_of so_far tried → so_far.found ≡ false → Picks w l (mask l flags) (suc i) r
      unfolding better_of replaces chosen
      picks_first r is found = rw (is, succeeds, found) (chosen_picks (best_first w l (mask l flags) i (mask l tried.flags) (picks.nothing_found found) tried_here))

    picks_fail : (r : Best) → r ≡ better_of so_far tried → tried.succeeds ≡ false → Picks w l (mask l flags) (suc i) r
    unfolding better_of replaces
    picks_fail r is fails =
        rw (is, fails) (same_picks w l (mask l flags) i so_far picks (best_same w l (mask l flags) i (trial_unmet w l flags current i values here before tried.succeeds tried.flags tried.struck tries fails)))

    picks_next : (r : Best) → r ≡ better_of so_far tried → Picks w l (mask l flags) (suc i) r
    picks_next r is = by_case tried.succeeds refl so_far.found refl
      where
        by_case : (s : Bool) → tried.succeeds ≡ s → (f : Bool) → so_far.found ≡ f → Picks w l (mask l flags) (suc i) r
        by_case false s f e = picks_fail r is s
        by_case true s false e = picks_first s r is e
        by_case true s true e = picks_second s r _ is e refl

  -- a kept step is tried and done
  pub looks_kept : (so_far r : Best) (tried : Tried) (done : Bool) (next : List ℕ) → Picks w l (mask l flags) i so_far → MakesTrial w l i flags values tried.succeeds tried.flags tried.struck → get_or flags i false ≡ true
      → r ≡ better_of so_far tried → Advances w values (get_or l i 0) done next → Looks w l (mask l flags) (i + 1) r next
  looks_kept so_far r tried done next picks tries up is advances =
      record { picks = rw add-one (picks_next so_far tried picks tries up r is); before = advanced w l flags current i values here before done next up advances }

  -- a struck one is passed over
  pub looks_struck : (so_far : Best) → Picks w l (mask l flags) i so_far → get_or flags i false ≡ false → Looks w l (mask l flags) (i + 1) so_far values
  looks_struck so_far picks down =
      let fails = unkept_fails (initial w) (goal w) (steps w l) (mask l flags) i (unkept w l flags current i values here before down) in
      record { picks = rw add-one (same_picks w l (mask l flags) i so_far picks (best_same w l (mask l flags) i fails)); before = passed_over w l flags current i values here before down }
