-- The walk along a list's steps, by the cases of its loop: what is left of the walk makes of the tables what all of it makes of the first. What the code calls is
-- a variable here, with what is known of it as a premise. Assumes nothing.
use Prim.Native.Nat.{ℕ, ◌+◌, ◌≤◌, ◌<◌}
use native.Mathlib.Omega.{arith}
use mathlib.Core.Path.{◌≡◌, refl, ◌∙◌}
use mathlib.Core.Bool.{Bool, false}
use mathlib.Core.List.{List}
use lib.ListN.{length, get_or, drop, drop_of_length-le}
use Rattle.sas.specs.Plan.{written, written_always, needed}
use Rattle.reduction.specs.Reduction.{Reduction}
use Rattle.sheet.specs.declared.group.ActionFacts.{ActionFacts}
use Rattle.sheet.specs.Decode.{action}
use Rattle.sheet.specs.Between.Group.{needed_group, facts_in}
use Rattle.sheet.specs.Between.Effects.{effects_of, written_in, always_in}
use Rattle.sheet.proofs.GroupLaws.{needed_facts}
use Rattle.sheet.proofs.EffectLaws.{effects_written, effects_always}
use Rattle.plan.specs.Limits.{most_steps}
use Rattle.plan.specs.Valid.{steps}
use Rattle.plan.proofs.FaultLaws.{drop_next}
use Rattle.trace.specs.Between.Traces.{tables, wrote_each}
use Rattle.landmark.specs.Between.Rows.{row_start, supports_noted}
use Rattle.landmark.specs.Between.Passes.{walk_tables, walked_step, walked}

-- where the walk stands before index i
pub record Walking (w l : List ℕ) (m : Reduction) (traces₀ latest₀ rows₀ : List ℕ) (i : ℕ) (traces latest rows : List ℕ) : Type 0 where
  pub few : length l ≤ most_steps
  pub reached : i ≤ length l
  pub traces_sized : length traces ≡ length traces₀
  pub latest_sized : length latest ≡ length latest₀
  pub rows_sized : length rows ≡ length rows₀
  pub whole : walked m (i + 1) (steps w (drop i l)) (walk_tables traces latest rows) ≡ walked m 1 (steps w l) (walk_tables traces₀ latest₀ rows₀)

module _ (w l : List ℕ) (m : Reduction) (traces₀ latest₀ rows₀ : List ℕ) where
  pub walking_start : length l ≤ most_steps → Walking w l m traces₀ latest₀ rows₀ 0 traces₀ latest₀ rows₀
  walking_start few = record { few = few; reached = omega arith; traces_sized = refl; latest_sized = refl; rows_sized = refl; whole = refl }

  module _ (i : ℕ) (traces latest rows : List ℕ) (along : Walking w l m traces₀ latest₀ rows₀ i traces latest rows) where
    -- one step more
    pub walking_more : i < length l → (facts : ActionFacts) (marked : Bool) (traces' latest' rows' : List ℕ) → facts.precondition ≡ needed_group w (get_or l i 0)
        → facts.effects ≡ effects_of w (get_or l i 0) → rows' ≡ supports_noted traces (row_start (i + 1)) (facts_in w facts.precondition) rows → marked ≡ get_or m (i + 1) false
        → tables traces' latest' ≡ wrote_each (i + 1) marked (written_in w facts.effects) (always_in w facts.effects) (tables traces latest) → length traces' ≡ length traces
        → length latest' ≡ length latest → length rows' ≡ length rows → Walking w l m traces₀ latest₀ rows₀ (i + 1) traces' latest' rows'
    unfolding walked walked_step
    walking_more some facts marked traces' latest' rows' needs writes notes is wrote_all same_traces same_latest same_rows =
        let here : walk_tables traces' latest' rows' ≡ walked_step m (i + 1) (action w (get_or l i 0)) (walk_tables traces latest rows)
        = λ k. walk_tables (behind k).traces (behind k).latest (row k) in
        record {
          few = along.few;
          reached = omega arith;
          traces_sized = same_traces ∙ along.traces_sized;
          latest_sized = same_latest ∙ along.latest_sized;
          rows_sized = same_rows ∙ along.rows_sized;
          whole = rw here (rw (drop_next l i some) at along.whole);
        }
      where
        behind : tables traces' latest' ≡ wrote_each (i + 1) (get_or m (i + 1) false) (written (action w (get_or l i 0))) (written_always (action w (get_or l i 0))) (tables traces latest)
        behind = wrote_all ∙ rw (is, writes, effects_written w (get_or l i 0), effects_always w (get_or l i 0))

        row : rows' ≡ supports_noted traces (row_start (i + 1)) (needed (action w (get_or l i 0))) rows
        row = notes ∙ rw (needs, needed_facts w (get_or l i 0))

    -- the walk is over
    pub walking_end : length l ≤ i → walk_tables traces latest rows ≡ walked m 1 (steps w l) (walk_tables traces₀ latest₀ rows₀)
    unfolding walked
    walking_end over = rw (drop_of_length-le l over) at along.whole
