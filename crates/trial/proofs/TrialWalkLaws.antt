-- The walk along the rest of the current list, turn by turn: what a turn does to the flags and the state leaves the end of the walk as it was.
-- By the cases of a step that is struck already, one that is done and one that can't be. Assumes nothing.
use Prim.Native.Nat.{ℕ, ◌+◌, ◌≤◌, ◌<◌}
use native.Mathlib.Numerals.{add-one}
use native.Mathlib.Omega.{arith}
use mathlib.Core.Path.{◌≡◌, refl, sym, ◌∙◌}
use mathlib.Core.Bool.{Bool, true, false}
use mathlib.Core.List.{List, [], ◌∷◌, ◌++◌, append_assoc}
use lib.ListN.{length, get_or, set, take, drop, take-append-drop, drop_of_length-le}
use lib.Seq.{drop-cons, take-suc, take-suc-set, drop-set-lt}
use Rattle.sas.specs.Plan.{applicable, apply}
use Rattle.tally.specs.declared.Tally.{Tally}
use Rattle.tally.specs.Tally.{one_more}
use Rattle.sheet.specs.Layout.{cost_word}
use Rattle.sheet.specs.Decode.{action}
use Rattle.step.specs.Between.Advance.{Advances}
use Rattle.plan.specs.Valid.{steps}
use Rattle.reduction.specs.Reduction.{Reduction}
use Rattle.reduction.specs.Trials.{walk, after}
use Rattle.reduction.proofs.trials.TrialLaws.{walk_done, walk_struck, after_done, after_struck}
use Rattle.trial.specs.Between.Walk.{flags_after, state_after, Fits, Balanced, WalksRest, DoesOrStrikes}
use Rattle.trial.proofs.BalanceLaws.{strike_balanced, same_balanced, balanced_then, balanced_fits}

module _ (w : List ℕ) (a j : ℕ) (m : Reduction) (s : List ℕ) (t : Tally) where
  -- it was struck before
  pub turns_skip : get_or m j false ≡ false → DoesOrStrikes w a j m s t m s t
  turns_skip down = record { flags = rw down; state = rw down; tally = rw down }

  pub turns_done : (done : Bool) (s' : List ℕ) → get_or m j false ≡ true → Advances w s a done s' → done ≡ true → DoesOrStrikes w a j m s t m s' t
  turns_done done s' up advances was =
      let can : applicable s (action w a) ≡ true = sym advances.applied ∙ was in
      record { flags = rw (up, can); state = rw (up, can) (advances.state ∙ rw was); tally = rw (up, can) }

  pub turns_struck : (done : Bool) (s' : List ℕ) (m' : Reduction) (c : ℕ) (t' : Tally) → get_or m j false ≡ true → Advances w s a done s' → done ≡ false → m' ≡ set m j false → c ≡ cost_word w a
      → t' ≡ one_more t c → DoesOrStrikes w a j m s t m' s' t'
  turns_struck done s' m' c t' up advances was struck price counted =
      let can_not : applicable s (action w a) ≡ false = sym advances.applied ∙ was in
      record { flags = rw (up, can_not) struck; state = rw (up, can_not) (advances.state ∙ rw was); tally = rw (up, can_not) (counted ∙ rw price) }

-- past the end of the list nothing is left to walk
pub over : (w l : List ℕ) (j : ℕ) (m : Reduction) (s : List ℕ) → length l ≤ j → (flags_after w l j m s ≡ m) × (state_after w l j m s ≡ s)
unfolding flags_after state_after walk after
over w l j m s h = rw (drop_of_length-le l h) (take-append-drop j m, refl)

module _ (w l : List ℕ) (j : ℕ) (m : Reduction) (s : List ℕ) (here : j < length l) (inside : j < length m) where
  next_step : steps w (drop j l) ≡ action w (get_or l j 0) ∷ steps w (drop (j + 1) l)
  next_step = rw (add-one, drop-cons l j 0)

  -- the flag at index j, in front of those behind it
  next_flag : (b : Bool) → get_or m j false ≡ b → drop j m ≡ b ∷ drop (j + 1) m
  next_flag b e = rw (add-one, drop-cons m j false, e)

  -- the flags up to index j and what is walked behind them
  joined : (m' rest : Reduction) (b : Bool) → take (j + 1) m' ≡ take j m ++ (b ∷ []) → take (j + 1) m' ++ rest ≡ take j m ++ (b ∷ rest)
  joined m' rest b e = rw e (append_assoc (take j m) (b ∷ []) rest)

  same_flags : (b : Bool) → get_or m j false ≡ b → take (j + 1) m ≡ take j m ++ (b ∷ [])
  same_flags b e = rw (add-one, take-suc m j false, e)

  one_struck : take (j + 1) (set m j false) ≡ take j m ++ (false ∷ [])
  one_struck = rw add-one (take-suc-set m j false inside)

  rest_kept : drop (j + 1) (set m j false) ≡ drop (j + 1) m
  rest_kept = drop-set-lt (j + 1) m j false (omega arith)

  module _ (m' : Reduction) (s' : List ℕ) (t t' : Tally) (turns : DoesOrStrikes w (get_or l j 0) j m s t m' s' t') where
    -- the step was struck before
    turned_skip : get_or m j false ≡ false → (flags_after w l (j + 1) m' s' ≡ flags_after w l j m s) × (state_after w l (j + 1) m' s' ≡ state_after w l j m s)
    unfolding flags_after state_after walk after
    turned_skip e =
        let same_m : m' ≡ m = turns.flags ∙ rw e in
        let same_s : s' ≡ s = turns.state ∙ rw e in
        rw (same_m, same_s, next_step, next_flag false e) (joined m _ false (same_flags false e), refl)

    -- it is done
    turned_done : get_or m j false ≡ true → applicable s (action w (get_or l j 0)) ≡ true
        → (flags_after w l (j + 1) m' s' ≡ flags_after w l j m s) × (state_after w l (j + 1) m' s' ≡ state_after w l j m s)
    unfolding flags_after state_after
    turned_done e can =
        let same_m : m' ≡ m = turns.flags ∙ rw (e, can) in
        let next_s : s' ≡ apply s (action w (get_or l j 0)) = turns.state ∙ rw (e, can) in
        rw (same_m, next_s, next_step, next_flag true e, walk_done s _ (steps w (drop (j + 1) l)) (drop (j + 1) m) can, after_done s _ (steps w (drop (j + 1) l)) (drop (j + 1) m) can)
        (joined m _ true (same_flags true e), refl)

    -- it is struck
    turned_struck : get_or m j false ≡ true → applicable s (action w (get_or l j 0)) ≡ false
        → (flags_after w l (j + 1) m' s' ≡ flags_after w l j m s) × (state_after w l (j + 1) m' s' ≡ state_after w l j m s)
    unfolding flags_after state_after
    turned_struck e can_not =
        let next_m : m' ≡ set m j false = turns.flags ∙ rw (e, can_not) in
        let same_s : s' ≡ s = turns.state ∙ rw (e, can_not) in
        rw (next_m, same_s, rest_kept, next_step, next_flag true e, walk_struck s _ (steps w (drop (j + 1) l)) (drop (j + 1) m) can_not, after_struck s _ (steps w (drop (j + 1) l)) (drop (j + 1) m) can_not)
        (joined (set m j false) _ false one_struck, refl)

    -- a turn leaves the end of the walk as it was
    pub turned : (flags_after w l (j + 1) m' s' ≡ flags_after w l j m s) × (state_after w l (j + 1) m' s' ≡ state_after w l j m s)
    turned = by_case (get_or m j false) refl (applicable s (action w (get_or l j 0))) refl
      where
        by_case : (b : Bool) → get_or m j false ≡ b → (c : Bool) → applicable s (action w (get_or l j 0)) ≡ c
            → (flags_after w l (j + 1) m' s' ≡ flags_after w l j m s) × (state_after w l (j + 1) m' s' ≡ state_after w l j m s)
        by_case false e c can = turned_skip e
        by_case true e true can = turned_done e can
        by_case true e false can = turned_struck e can

    -- and what it strikes goes over to the tally
    pub turned_balanced : Fits w l m t → Balanced w l m m' t t'
    turned_balanced fits = by_case (get_or m j false) refl (applicable s (action w (get_or l j 0))) refl
      where
        by_case : (b : Bool) → get_or m j false ≡ b → (c : Bool) → applicable s (action w (get_or l j 0)) ≡ c → Balanced w l m m' t t'
        by_case false e c can = let same_m : m' ≡ m = turns.flags ∙ rw e in let same_t : t' ≡ t = turns.tally ∙ rw e in rw (same_m, same_t) (same_balanced w l m t)
        by_case true e true can =
            let same_m : m' ≡ m = turns.flags ∙ rw (e, can) in
            let same_t : t' ≡ t = turns.tally ∙ rw (e, can) in
            rw (same_m, same_t) (same_balanced w l m t)
        by_case true e false can =
            let next_m : m' ≡ set m j false = turns.flags ∙ rw (e, can) in
            let next_t : t' ≡ one_more t (cost_word w (get_or l j 0)) = turns.tally ∙ rw (e, can) in
            rw (next_m, next_t) (strike_balanced w l m j t here e fits)

-- where the walk from index i on stands before index j: it ends as it was to end, no flag has come or gone, and what is struck is counted
pub record Along (w l : List ℕ) (i : ℕ) (m₀ : Reduction) (s₀ : List ℕ) (t₀ : Tally) (j : ℕ) (m : Reduction) (s : List ℕ) (t : Tally) : Type 0 where
  pub long : length m ≡ length m₀
  pub flags : flags_after w l j m s ≡ flags_after w l i m₀ s₀
  pub state : state_after w l j m s ≡ state_after w l i m₀ s₀
  pub balanced : Fits w l m₀ t₀ → Balanced w l m₀ m t₀ t

pub along_start : (w l : List ℕ) (i : ℕ) (m : Reduction) (s : List ℕ) (t : Tally) → Along w l i m s t i m s t
along_start w l i m s t = record { long = refl; flags = refl; state = refl; balanced = λ fits. same_balanced w l m t }

module _ (w l : List ℕ) (i : ℕ) (m₀ : Reduction) (s₀ : List ℕ) (t₀ : Tally) (j : ℕ) (m : Reduction) (s : List ℕ) (t : Tally) (along : Along w l i m₀ s₀ t₀ j m s t) where
  pub along_turn : (m' : Reduction) (s' : List ℕ) (t' : Tally) → length l ≤ length m₀ → j < length l → length m' ≡ length m → DoesOrStrikes w (get_or l j 0) j m s t m' s' t'
      → Along w l i m₀ s₀ t₀ (j + 1) m' s' t'
  along_turn m' s' t' room here as_long turns =
      let inside : j < length m = omega (arith, along.long) in
      let same = turned w l j m s here inside m' s' t t' turns in
      record {
        long = as_long ∙ along.long;
        flags = same.0 ∙ along.flags;
        state = same.1 ∙ along.state;
        balanced = λ fits. let so_far = along.balanced fits in balanced_then w l _ _ _ _ _ _ so_far (turned_balanced w l j m s here inside m' s' t t' turns (balanced_fits w l _ _ _ _ so_far fits));
      }

  pub along_walks : length l ≤ j → WalksRest w l i m₀ s₀ t₀ m s t
  along_walks past = record { flags = sym (over w l j m s past).0 ∙ along.flags; state = sym (over w l j m s past).1 ∙ along.state; balanced = along.balanced }
