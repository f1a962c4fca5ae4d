-- `bits_behind` meets its contract. The loop's invariant: words and tables are those of the steps from i on. Assumes nothing.
use Prim.Native.Nat.{◌+◌, ◌-◌}
use native.Mathlib.Omega.{arith}
use mathlib.Core.Path.{◌≡◌}
use Rattle.fact_bits.proofs.BitWalkLaws.{BehindFrom, behind_end, behind_noted, behind_passed}
use mathlib.Core.Logic.{inl, inr}
use Rattle.fact_bits.proofs.bits.bits_behind.Goals.{then-not-flagged+then-i-lt-STEPS, else-not-flagged}
use Rattle.fact_bits.proofs.bits.bits_behind.Goals as goal

pub loop-i-init : goal.loop-i-init
loop-i-init c =
    behind_end _ _ _ _ _ _ _ c.goal.ensures (rw (← c.facts.ensures) c.stamp.ensures) c.goal-2.ensures (rw (← c.facts-2.ensures) c.stamp-2.ensures)

pub loop-i-preserved : goal.loop-i-preserved
loop-i-preserved c =
    let further : c.loop-i.i - 1 + 1 ≡ c.loop-i.i = omega arith in
    let along : BehindFrom c.args.words.now c.args.plan.now c.args.flags.now (c.loop-i.i - 1 + 1) c.loop-i.behind c.loop-i.wanting c.loop-i.unneeded =
    rw further c.loop-i.invariant in
    let stamps = rw c.facts-in-loop-i.ensures at c.stamp-in-loop-i.ensures in
    elim c.if-not-flagged.branch [
      | then-not-flagged+then-i-lt-STEPS w ↦ rw w.behind-is
          (behind_noted _ _ _ _ _ _ _ along _ c.facts_of-facts.ensures.0 c.facts_of-facts.ensures.1 _ c.get_or-flagged.ensures _ _ c.pass_back.ensures stamps
          w.if-i-lt-STEPS.true _ (rw w.facts-then-i-lt-STEPS.ensures at w.pack.ensures) (rw w.facts-then-i-lt-STEPS-2.ensures at w.pack-then-i-lt-STEPS.ensures))
      | else-not-flagged w ↦ rw w.behind-is
          (behind_passed _ _ _ _ _ _ _ along _ c.facts_of-facts.ensures.0 c.facts_of-facts.ensures.1 _ c.get_or-flagged.ensures _ _ c.pass_back.ensures stamps
          (λ inside down. elim w.else-not-flagged.either [ inl past ↦ omega (arith, past.1) | inr up ↦ cc (up, down, c.get_or-flagged.ensures) ]))
    ]
