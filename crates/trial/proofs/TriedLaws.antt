-- A trial is the walk of the rest from the state before its step, with that step struck and counted. Assumes nothing.
use Prim.Native.Nat.{ℕ, ◌+◌, ◌≤◌, ◌<◌}
use native.Mathlib.Numerals.{add-one}
use native.Mathlib.Omega.{arith}
use mathlib.Core.Path.{◌≡◌, sym, ◌∙◌}
use mathlib.Core.Bool.{Bool, true, false}
use mathlib.Core.List.{List, [], ◌∷◌, ◌++◌, Memᴰ, append_assoc}
use lib.ListN.{length, get_or, set, take, drop}
use lib.Seq.{take-suc-set, drop-set-lt}
use Rattle.sas.specs.Plan.{satisfies}
use Rattle.tally.specs.declared.Tally.{Tally}
use Rattle.tally.specs.Tally.{nothing, one_more}
use Rattle.sheet.specs.Layout.{cost_word}
use Rattle.sheet.specs.Decode.{domains, goal}
use Rattle.sas.specs.Task.{Fact, Action}
use Rattle.sas.specs.Between.WellFormed.{Known, ActionFormed}
use Rattle.sas.proofs.WellFormedLaws.{rising_known}
use Rattle.sas.proofs.ActionLaws.{needed_known}
use Rattle.sas.proofs.PartLaws.{part_satisfies}
use Rattle.sheet.specs.Limits.{limits}
use Rattle.sheet.proofs.Accepted.{domains_length}
use Rattle.step.specs.State.{state_size, front}
use Rattle.step.proofs.StateLaws.{initial_length, sized, few_variables}
use Rattle.plan.specs.Readable.{Readable}
use Rattle.plan.specs.Valid.{steps}
use Rattle.plan.proofs.PlanLaws.{goal_rising, rest_formed}
use Rattle.reduction.specs.Trials.{after}
use Rattle.reduction.proofs.trials.PartWalk.{OwnFacts, part_walk, after_length}
use Rattle.reduction.specs.Reduction.{Reduction}
use Rattle.trial.specs.Between.Walk.{flags_after, state_after, Fits, Balanced, WalksRest}
use Rattle.trial.specs.Between.Trial.{MakesTrial}
use Rattle.trial.proofs.BalanceLaws.{strike_balanced, balanced_then, balanced_fits}

module _ (w l : List ℕ) (i : ℕ) (m : Reduction) (s : List ℕ) (m' : Reduction) (c : ℕ) (none one : Tally) (struck : m' ≡ set m i false) (price : c ≡ cost_word w (get_or l i 0))
    (nothing_yet : none ≡ nothing) (first : one ≡ one_more none c) where
  -- the step itself goes over to the tally first
  first_balanced : i < length l → get_or m i false ≡ true → Fits w l m nothing → Balanced w l m m' nothing one
  first_balanced here up fits = rw (struck, first, nothing_yet, price) (strike_balanced w l m i nothing here up fits)

  tries : (left : Reduction) (end : List ℕ) (met : Bool) (t : Tally) → i < length m → i < length l → WalksRest w l (i + 1) m' s one left end t → met ≡ satisfies end (goal w)
      → MakesTrial w l i m s met left t
  unfolding flags_after state_after
  tries left end met t inside here walks test =
      let rest : drop (i + 1) m' ≡ drop (i + 1) m = rw struck (drop-set-lt (i + 1) m i false (omega arith)) in
      let front : take (i + 1) m' ≡ take i m ++ (false ∷ []) = rw (struck, add-one) (take-suc-set m i false inside) in
      record {
        goal_met = test ∙ rw (walks.state, rest);
        flags = walks.flags ∙ rw (rest, front) (append_assoc (take i m) (false ∷ []) _);
        balanced = λ up fits. let over = first_balanced here up fits in balanced_then w l _ _ _ _ _ _ over (walks.balanced (balanced_fits w l _ _ _ _ over fits));
      }

-- what the actions of a list that can be read need and read, and the goal, are facts of the state's own variables
module _ (w l : List ℕ) (readable : Readable w l) where
  own : (f : Fact) → Known (domains w) f → f.variable < state_size w
  own f known = omega (arith, known.variable, domains_length w, initial_length w, sized w readable.accepted)

  own_facts : (k : ℕ) → OwnFacts (state_size w) (steps w (drop k l))
  own_facts k a m =
      let formed : ActionFormed (domains w) a = rest_formed w l readable.accepted readable.known k a m in
      record {
        needed = λ f need. own f (needed_known a formed need);
        read = λ e among f n. own f (rising_known (formed.conditions e among) n);
      }

  own_goal : (f : Fact) → Memᴰ f (goal w) → f.variable < state_size w
  own_goal f m = own f (rising_known (goal_rising w readable.accepted) m)

-- a trial in the whole of an array is the trial from the state at its front
pub tries_front : (w l : List ℕ) (i : ℕ) (m : Reduction) (values : List ℕ) (m' : Reduction) (c : ℕ) (none one : Tally) → m' ≡ set m i false → c ≡ cost_word w (get_or l i 0)
    → none ≡ nothing → one ≡ one_more none c → (left : Reduction) (end : List ℕ) (met : Bool) (t : Tally) → i < length m → i < length l
    → WalksRest w l (i + 1) m' values one left end t → met ≡ satisfies end (goal w) → Readable w l → limits.variables ≤ length values → MakesTrial w l i m (front w values) met left t
tries_front w l i m values m' c none one struck price nothing_yet first left end met t inside here walks test readable long =
    let whole : MakesTrial w l i m values met left t = tries w l i m values m' c none one struck price nothing_yet first left end met t inside here walks test in
    let room : state_size w ≤ length values = omega (arith, sized w readable.accepted, few_variables w readable.accepted) in
    let rest : List Action = steps w (drop (i + 1) l) in
    let (same, led) = part_walk (state_size w) values rest (drop (i + 1) m) (own_facts w l readable (i + 1)) room in
    let room_after : state_size w ≤ length (after values rest (drop (i + 1) m)) = rw (after_length values rest (drop (i + 1) m)) room in
    record {
      goal_met = whole.goal_met ∙ rw led (sym (part_satisfies (state_size w) _ room_after (goal w) (own_goal w l readable)));
      flags = whole.flags ∙ rw same;
      balanced = whole.balanced;
    }
