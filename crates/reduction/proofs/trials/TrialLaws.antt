-- What a walk leaves: the current list with steps struck, which runs to the state after the walk. So what a successful trial leaves is valid and has
-- fewer steps; and a trial is 01's, a walk along the rest from the state before its step. Each by one walk along the list. Assumes nothing.
use Prim.Native.Nat.{ℕ, zero, suc, ◌<◌}
use native.Mathlib.Omega.{arith}
use mathlib.Core.Path.{◌≡◌, refl, sym, ◌∙◌, ap}
use mathlib.Core.Bool.{Bool, true, false, ◌&&◌, and-eq-true_iff}
use mathlib.Core.Option.{none, some, some-ne-none, some-injective}
use mathlib.Core.List.{List, [], ◌∷◌, ◌++◌}
use lib.ListN.{length, get_or, set, take, drop, length-set}
use Rattle.sas.specs.Task.{Assignment, State, Action}
use Rattle.sas.specs.Plan.{satisfies, applicable, apply, run}
use Rattle.sas.proofs.ActionLaws.{result_applicable, result_assigned}
use Rattle.sas.proofs.RunLaws.{run_nothing, run_applied}
use Rattle.reduction.specs.Reduction.{Reduction, keeps, kept, count, meets, valid}
use Rattle.reduction.specs.Between.Order.{Contains}
use Rattle.reduction.specs.Between.Elimination.{trial}
use Rattle.reduction.specs.Trials.{walk, after}
use Rattle.reduction.proofs.ValidLaws.{runs_valid, valid_first}
use Rattle.reduction.proofs.ReductionLaws.{strike_count, struck_count}

module _ (s : State) (a : Action) (p : List Action) (m : Reduction) where
  -- a kept step that can be done stays
  pub walk_done : applicable s a ≡ true → walk s (a ∷ p) (true ∷ m) ≡ true ∷ walk (apply s a) p m
  unfolding walk
  walk_done h = rw (h, walk)

  -- and one that can't be is struck
  pub walk_struck : applicable s a ≡ false → walk s (a ∷ p) (true ∷ m) ≡ false ∷ walk s p m
  unfolding walk
  walk_struck h = rw (h, walk)

  pub after_done : applicable s a ≡ true → after s (a ∷ p) (true ∷ m) ≡ after (apply s a) p m
  unfolding after
  after_done h = rw (h, after)

  pub after_struck : applicable s a ≡ false → after s (a ∷ p) (true ∷ m) ≡ after s p m
  unfolding after
  after_struck h = rw (h, after)

pub walk_length : (s : State) (p : List Action) (m : Reduction) → length (walk s p m) ≡ length m
unfolding walk
walk_length s [] m = refl
walk_length s (a ∷ p) [] = refl
walk_length s (a ∷ p) (false ∷ m) = ap suc (walk_length s p m)
walk_length s (a ∷ p) (true ∷ m) = by_case (λ t. walk_length t p m) (applicable s a) refl
  where
    by_case : ((t : State) → length (walk t p m) ≡ length m) → (b : Bool) → applicable s a ≡ b → length (walk s (a ∷ p) (true ∷ m)) ≡ suc (length m)
    by_case rest true e = rw (walk_done s a p m e) (ap suc (rest (apply s a)))
    by_case rest false e = rw (walk_struck s a p m e) (ap suc (rest s))

pub walk_contains : (s : State) (p : List Action) (m : Reduction) → Contains m (walk s p m)
unfolding walk
walk_contains s [] m i k = k
walk_contains s (a ∷ p) [] i k = k
walk_contains s (a ∷ p) (false ∷ m) zero k = k
walk_contains s (a ∷ p) (false ∷ m) (suc i) k = walk_contains s p m i k
walk_contains s (a ∷ p) (true ∷ m) zero k = refl
walk_contains s (a ∷ p) (true ∷ m) (suc i) k = by_case (λ t. walk_contains t p m i) (applicable s a) refl
  where
    by_case : ((t : State) → keeps (walk t p m) i → keeps m i) → (b : Bool) → applicable s a ≡ b → keeps m i
    by_case rest true e = rest (apply s a) (rw (walk_done s a p m e) at k)
    by_case rest false e = rest s (rw (walk_struck s a p m e) at k)

pub walk_runs : (s : State) (p : List Action) (m : Reduction) → run s (kept (walk s p m) p) ≡ some (after s p m)
unfolding walk after kept
walk_runs s [] m = run_nothing s
walk_runs s (a ∷ p) [] = run_nothing s
walk_runs s (a ∷ p) (false ∷ m) = walk_runs s p m
walk_runs s (a ∷ p) (true ∷ m) = by_case (λ t. walk_runs t p m) (applicable s a) refl
  where
    by_case : ((t : State) → run t (kept (walk t p m) p) ≡ some (after t p m)) → (b : Bool) → applicable s a ≡ b
        → run s (kept (walk s (a ∷ p) (true ∷ m)) (a ∷ p)) ≡ some (after s (a ∷ p) (true ∷ m))
    by_case rest true e = rw (walk_done s a p m e, after_done s a p m e, run_applied s a (kept (walk (apply s a) p m) p) e) (rest (apply s a))
    by_case rest false e = rw (walk_struck s a p m e, after_struck s a p m e) (rest s)

-- what a successful trial at i leaves: step i was kept and is struck, the walk strikes what then can't be done, and the goal holds after it
pub record Succeeds (s : State) (goal : Assignment) (p : List Action) (m : Reduction) (i : ℕ) (n : Reduction) : Type 0 where
  pub tried : keeps m i
  pub left : n ≡ walk s p (set m i false)
  pub met : satisfies (after s p (set m i false)) goal ≡ true

pub trial_succeeds : {n : Reduction} (s : State) (goal : Assignment) (p : List Action) (m : Reduction) (i : ℕ) → trial s goal p m i ≡ some n
    → Succeeds s goal p m i n
unfolding trial
trial_succeeds {n} s goal p m i h = by_case (get_or m i false && satisfies (after s p (set m i false)) goal) refl
  where
    by_case : (b : Bool) → (get_or m i false && satisfies (after s p (set m i false)) goal) ≡ b → Succeeds s goal p m i n
    by_case true e =
        let (tried, met) = (and-eq-true_iff (get_or m i false) (satisfies (after s p (set m i false)) goal)).0 e in
        record { tried = tried; left = sym (some-injective _ _ (rw e at h)); met = met }
    by_case false e = absurd (some-ne-none n (sym (rw e at h)))

pub succeeds_trial : {n : Reduction} {s : State} {goal : Assignment} {p : List Action} {m : Reduction} {i : ℕ} → Succeeds s goal p m i n → trial s goal p m i ≡ some n
unfolding trial
succeeds_trial t = rw (t.tried, t.met, t.left)

-- a step that is not kept is not tried
pub unkept_fails : (s : State) (goal : Assignment) (p : List Action) (m : Reduction) (i : ℕ) → get_or m i false ≡ false → trial s goal p m i ≡ none
unfolding trial
unkept_fails s goal p m i h = rw h

module _ {n : Reduction} {s : State} {goal : Assignment} {p : List Action} {m : Reduction} {i : ℕ} (t : Succeeds s goal p m i n) where
  pub success_length : length n ≡ length m
  success_length = rw t.left (walk_length s p (set m i false) ∙ length-set m i false)

  pub success_valid : valid s goal (kept n p) ≡ true
  success_valid = rw t.left (runs_valid (meets goal) s (after s p (set m i false)) (kept (walk s p (set m i false)) p) (walk_runs s p (set m i false)) ∙ t.met)

  pub success_count : count n < count m
  success_count = rw t.left (omega (arith, struck_count m i t.tried, strike_count (set m i false) (walk s p (set m i false)) (walk_contains s p (set m i false))))

-- the walk of a trial at i, from the state before i: that which the kept steps before i lead to
pub record FromBefore (s : State) (p : List Action) (m : Reduction) (i : ℕ) : Type 0 where
  pub before : State
  pub reached : run s (kept (take i m) (take i p)) ≡ some before
  pub walked : walk s p (set m i false) ≡ take i m ++ (false ∷ walk before (drop (suc i) p) (drop (suc i) m))
  pub end : after s p (set m i false) ≡ after before (drop (suc i) p) (drop (suc i) m)

-- in a valid reduction the walk of a trial leaves what stands before its step and walks along the rest
pub trial_from_before : (s : State) (goal : Assignment) (p : List Action) (m : Reduction) (i : ℕ) → length m ≡ length p → valid s goal (kept m p) ≡ true → i < length m
    → FromBefore s p m i
unfolding walk after kept
trial_from_before s goal [] [] i fits v h = absurd (omega arith)
trial_from_before s goal [] (b ∷ m) i fits v h = absurd (omega arith)
trial_from_before s goal (a ∷ p) [] i fits v h = absurd (omega arith)
trial_from_before s goal (a ∷ p) (b ∷ m) zero fits v h = record { before = s; reached = run_nothing s; walked = refl; end = refl }
trial_from_before s goal (a ∷ p) (false ∷ m) (suc i) fits v h =
    let rest : FromBefore s p m i = trial_from_before s goal p m i (omega arith) v (omega arith) in
    record { before = rest.before; reached = rest.reached; walked = ap (λ n. false ∷ n) rest.walked; end = rest.end }
trial_from_before s goal (a ∷ p) (true ∷ m) (suc i) fits v h =
    let (t, done, behind) = valid_first (meets goal) s a (kept m p) v in
    let able : applicable s a ≡ true = result_applicable s a done in
    let rest : FromBefore (apply s a) p m i = trial_from_before (apply s a) goal p m i (omega arith) (rw (result_assigned s a done) at behind) (omega arith) in
    record {
      before = rest.before;
      reached = run_applied s a (kept (take i m) (take i p)) able ∙ rest.reached;
      walked = walk_done s a p (set m i false) able ∙ ap (λ n. true ∷ n) rest.walked;
      end = after_done s a p (set m i false) able ∙ rest.end;
    }
