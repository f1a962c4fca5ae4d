-- The state before an index: the rest of a valid reduction is valid from there, what is valid from there completes what was decided, and with one decision
-- more a kept step leads to the state before the next index and a struck one leaves it. By what is left before an index and from there on. And flags past the
-- end of a plan change nothing of a walk along it, by one walk along the list. Assumes nothing.
use Prim.Native.Nat.{ℕ, suc, ◌-◌, ◌≤◌, ◌<◌}
use native.Mathlib.Omega.{arith}
use mathlib.Core.Path.{◌≡◌, refl, sym, ◌∙◌, ap}
use mathlib.Core.Bool.{Bool, true, false}
use mathlib.Core.List.{List, [], ◌∷◌, ◌++◌}
use lib.ListN.{length, get_or, take, drop, length-drop, length-append}
use lib.Seq.{length-take-le, take-suc, drop-cons, take_at, drop_at}
use Rattle.sas.specs.Task.{Assignment, State, Action, idle}
use Rattle.sas.specs.Plan.{applicable, apply, run}
use Rattle.sas.proofs.ActionLaws.{result_applicable}
use Rattle.sas.proofs.RunLaws.{run_nothing, run_applied, run_append}
use Rattle.reduction.specs.Reduction.{Before, Reduction, kept, valid_for, ValidFor, meets, valid}
use Rattle.reduction.specs.Landmark.{step}
use Rattle.reduction.specs.Trials.{walk, after}
use Rattle.reduction.proofs.ValidLaws.{valid_first, valid_behind}
use Rattle.reduction.proofs.ReductionLaws.{kept_split, kept_behind}
use Rattle.reduction.proofs.trials.TrialLaws.{walk_done, walk_struck, after_done, after_struck}

pub before_first : (s : State) (p : List Action) (m : Reduction) → Before s p m 0 s
unfolding kept
before_first s p m = run_nothing s

module _ (s t : State) (p : List Action) (m : Reduction) (i : ℕ) (reached : Before s p m i t) where
  -- the rest of a valid reduction is valid from the state before it
  pub rest_valid : {ends : State → Bool} → ValidFor ends s p m → ValidFor ends t (drop i p) (drop i m)
  rest_valid {ends} v =
      record {
        fits = length-drop i m ∙ ap (λ n. n - i) v.fits ∙ sym (length-drop i p);
        valid_left =
            sym (valid_behind ends s t (kept (take i m) (take i p)) (kept (drop i m) (drop i p)) reached)
            ∙ ap (valid_for ends s) (sym (kept_split i m p))
            ∙ v.valid_left;
      }

  module _ (fits : length m ≡ length p) where
    -- and a valid reduction of the rest completes what was decided before
    pub completed_valid : {ends : State → Bool} {n : Reduction} → i ≤ length p → ValidFor ends t (drop i p) n → ValidFor ends s p (take i m ++ n)
    completed_valid {ends} {n} inside v =
        let long : length (take i m) ≡ i = length-take-le i m (omega arith) in
        record {
          fits = length-append (take i m) n ∙ omega (arith, v.fits, length-drop i p);
          valid_left =
              rw (kept_behind (take i m) n p, long)
              (valid_behind ends s t (kept (take i m) (take i p)) (kept n (drop i p)) reached ∙ v.valid_left);
        }

    -- with one decision more
    module _ (n : Reduction) (c : Bool) (inside : i < length p) (decides : take (suc i) n ≡ take i m ++ (c ∷ [])) where
      next_left : kept (take (suc i) n) (take (suc i) p) ≡ kept (take i m) (take i p) ++ kept (c ∷ []) (step p i ∷ [])
      next_left =
          let long : length (take i m) ≡ i = length-take-le i m (omega arith) in
          let steps : length (take i p) ≡ i = length-take-le i p (omega arith) in
          rw (decides, take-suc p i idle inside, kept_behind (take i m) (c ∷ []) (take i p ++ (step p i ∷ [])), long)
          (rw (take_at (take i p) (step p i ∷ []) i steps, drop_at (take i p) (step p i ∷ []) i steps) refl)

      before_more : run s (kept (take (suc i) n) (take (suc i) p)) ≡ run t (kept (c ∷ []) (step p i ∷ []))
      before_more = rw next_left (run_append s t (kept (take i m) (take i p)) (kept (c ∷ []) (step p i ∷ [])) reached)

      -- a struck step leaves the state, and one that is kept and can be done leads on
      pub before_struck : c ≡ false → Before s p n (suc i) t
      unfolding kept
      before_struck down = rw down at before_more ∙ run_nothing t

      pub before_kept : c ≡ true → applicable t (step p i) ≡ true → Before s p n (suc i) (apply t (step p i))
      unfolding kept
      before_kept up able = rw up at before_more ∙ run_applied t (step p i) [] able ∙ run_nothing (apply t (step p i))

-- what a kept step and a struck one do to the state before index i
pub record Passes (s : State) (p : List Action) (m : Reduction) (i : ℕ) (t : State) : Type 0 where
  pub able : get_or m i false ≡ true → applicable t (step p i) ≡ true
  pub kept_next : get_or m i false ≡ true → Before s p m (suc i) (apply t (step p i))
  pub struck_next : get_or m i false ≡ false → Before s p m (suc i) t

pub before_next : {t : State} (s : State) (goal : Assignment) (p : List Action) (m : Reduction) (i : ℕ) → length m ≡ length p → valid s goal (kept m p) ≡ true → i < length m
    → Before s p m i t → Passes s p m i t
unfolding kept
before_next {t} s goal p m i fits v inside reached =
    record { able = able; kept_next = λ up. before_kept s t p m i reached fits m _ within here up (able up); struck_next = before_struck s t p m i reached fits m _ within here }
  where
    within : i < length p
    within = omega arith

    here : take (suc i) m ≡ take i m ++ (get_or m i false ∷ [])
    here = take-suc m i false inside

    able : get_or m i false ≡ true → applicable t (step p i) ≡ true
    able up =
        let rest : ValidFor (meets goal) t (drop i p) (drop i m) = rest_valid s t p m i reached (record { fits = fits; valid_left = v }) in
        let left : valid t goal (step p i ∷ kept (drop (suc i) m) (drop (suc i) p)) ≡ true = rw (drop-cons p i idle within, drop-cons m i false inside, up) at rest.valid_left in
        result_applicable t (step p i) (valid_first (meets goal) t (step p i) (kept (drop (suc i) m) (drop (suc i) p)) left).1

-- flags past the end of a plan stay, and change nothing else
pub walk_past : (s : State) (p : List Action) (m e : Reduction) → length m ≡ length p → (walk s p (m ++ e) ≡ walk s p m ++ e) × (after s p (m ++ e) ≡ after s p m)
unfolding walk after
walk_past s [] [] e fits = (refl, refl)
walk_past s [] (b ∷ m) e fits = absurd (omega arith)
walk_past s (a ∷ p) [] e fits = absurd (omega arith)
walk_past s (a ∷ p) (false ∷ m) e fits = let (flags, state) = walk_past s p m e (omega arith) in (ap (λ n. false ∷ n) flags, state)
walk_past s (a ∷ p) (true ∷ m) e fits = by_case (λ t. walk_past t p m e (omega arith)) (applicable s a) refl
  where
    by_case : ((t : State) → (walk t p (m ++ e) ≡ walk t p m ++ e) × (after t p (m ++ e) ≡ after t p m)) → (b : Bool) → applicable s a ≡ b
        → (walk s (a ∷ p) (true ∷ (m ++ e)) ≡ walk s (a ∷ p) (true ∷ m) ++ e) × (after s (a ∷ p) (true ∷ (m ++ e)) ≡ after s (a ∷ p) (true ∷ m))
    by_case rest true able =
        rw (walk_done s a p (m ++ e) able, walk_done s a p m able, after_done s a p (m ++ e) able, after_done s a p m able)
        (ap (λ n. true ∷ n) (rest (apply s a)).0, (rest (apply s a)).1)
    by_case rest false able =
        rw (walk_struck s a p (m ++ e) able, walk_struck s a p m able, after_struck s a p (m ++ e) able, after_struck s a p m able)
        (ap (λ n. false ∷ n) (rest s).0, (rest s).1)
