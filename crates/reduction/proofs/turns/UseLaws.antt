-- A plain step that sets nothing which is needed later and does not hold yet changes nothing that matters, so it is never kept. With the bound and the wanted
-- facts, what the search is told is sound. Assumes nothing.
use Prim.Native.Nat.{ℕ, ◌+◌, ◌<◌}
use mathlib.Core.Path.{◌≡◌, refl}
use mathlib.Core.Bool.{Bool, true, false, not, ◌&&◌, and-eq-true_iff, or-false}
use mathlib.Core.List.Memᴰ
use mathlib.Core.List.{List, [], ◌∷◌}
use lib.ListN.{length, drop}
use lib.Dec.{eqb}
use borrow.Author.Tests.{not-true, not-false}
use Rattle.sas.specs.Task.{Fact, Assignment, State, Action}
use Rattle.sas.specs.Plan.{holds, written}
use Rattle.sas.proofs.WellFormedLaws.{ActionsPlain, each_behind, plain_conditions}
use Rattle.reduction.specs.Reduction.{Reduction, keeps, meets}
use Rattle.reduction.specs.Landmark.{step}
use Rattle.reduction.specs.Between.Wanted.{wanted}
use Rattle.reduction.specs.Between.Search.{Visit, both, bound}
use Rattle.reduction.specs.Between.Sound.{FlagsKept, Visited, Cut, Lacks, Sound}
use Rattle.sas.specs.Conflict.{some_of}
use Rattle.reduction.specs.Between.Cuts.{wanted_held, needed_in, useful, reads, read_in, matters, changing, tests}
use Rattle.sas.proofs.SomeLaws.{found_passes, found_none, none_found}
use Rattle.sas.proofs.EffectLaws.{plain_acting}
use Rattle.reduction.proofs.turns.HeldLaws.{each_step}
use Rattle.reduction.proofs.turns.CutLaws.{both_cut, bound_cut, wanted_cut}
use Rattle.reduction.proofs.turns.ChangeLaws.{unless_flagged_cut, weaker_cut, change_cut}

-- no condition of plain actions reads anything
plain_unread : {domains : List ℕ} (p : List Action) (v : ℕ) → ActionsPlain domains p → read_in p v ≡ false
unfolding read_in reads some_of
plain_unread [] v plain = refl
plain_unread (a ∷ p) v plain = rw (here, plain_unread p v (λ b m. plain b (Memᴰ.tail m)))
  where
    here : some_of (λ e. some_of (λ f. eqb f.variable v) e.condition) a.effects ≡ false
    here = none_found _ a.effects (λ e m. rw (plain_conditions (plain a (Memᴰ.head refl)) e m))

module _ {s : State} {p : List Action} {flags : Reduction} (goal : Assignment) where
  -- The use. A plain step that writes nothing that is needed behind it and does not hold yet changes nothing that matters.
  pub use_cut : (domains : List ℕ) → ActionsPlain domains p → Cut (meets goal) s p flags true (useful goal p)
  unfolding useful changing matters
  use_cut domains plain = weaker_cut (changing goal p) (useful goal p) (change_cut goal) less
    where
      less : (v : Visit) → v.index < length p → Visited s p flags v → useful goal p v ≡ false → changing goal p v ≡ false
      less v inside visited barred =
          let later : List Action = drop (v.index + 1) p in
          rw (plain_acting (step p v.index) (each_step plain v.index inside) v.state)
          (none_found _ (written (step p v.index))
          (λ f w.
          rw (plain_unread later f.variable (each_behind plain (v.index + 1)), or-false (needed_in goal later f))
          (found_none (λ g. needed_in goal later g && not (holds v.state g)) barred w)))

  module _ (flagged : FlagsKept (meets goal) s p flags) where
    -- the wanted facts, of which the test looks at all that the step may write
    pub wanted_held_cut : Cut (meets goal) s p flags false (wanted_held goal p flags)
    unfolding wanted_held
    wanted_held_cut = wanted_cut flagged goal (wanted_held goal p flags) (λ t met. met) lacks
      where
        lacks : (v : Visit) → v.index < length p → Visited s p flags v → wanted_held goal p flags v ≡ false → Lacks goal p flags v
        lacks v inside visited barred =
            let behind : Fact → Bool = λ f. wanted goal (drop (v.index + 1) p) (drop (v.index + 1) flags) f in
            let (f, w, passes) = found_passes (λ f. behind f && not (holds v.state f)) (written (step p v.index)) (not-false _ barred) in
            let (want, unheld) = (and-eq-true_iff (behind f) (not (holds v.state f))).0 passes in
            record { fact = f; wanted_behind = want; unheld = not-true _ unheld }

    -- so what the search is told is sound
    pub tests_sound : {domains : List ℕ} → length flags ≡ length p → ActionsPlain domains p → Sound (tests goal p flags) s p
    tests_sound {domains} fits plain =
        record {
          fits = fits;
          flagged = flagged;
          strikes = wanted_held_cut;
          keeps = unless_flagged_cut (both (bound p) (useful goal p)) (both_cut (bound p) (useful goal p) (bound_cut flagged) (use_cut domains plain));
        }
