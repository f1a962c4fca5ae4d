-- For every test at the end a valid list has just one minimal reduction, and `minimal` computes it; of what it leaves, nothing more can be struck. By list
-- induction: a valid reduction strikes or keeps the first step, and of the two that win there the lower wins, or the one that strikes where neither is
-- lower. Assumes nothing.
use Prim.Native.Nat.{ℕ, zero, suc}
use native.Mathlib.Omega.{arith}
use mathlib.Core.Path.{◌≡◌, refl, sym, ◌∙◌, ap, subst}
use mathlib.Core.Bool.{Bool, true, false, cond, true≢false, false≢true}
use mathlib.Core.Option.{Option, none, some}
use mathlib.Core.List.{List, [], ◌∷◌}
use lib.ListN.{length}
use Rattle.sas.specs.Task.{State, Action}
use Rattle.sas.specs.Plan.{applicable, apply, cost}
use Rattle.sas.proofs.ActionLaws.{result_applicable, result_assigned}
use Rattle.sas.proofs.RunLaws.{run_nothing, run_applied}
use Rattle.reduction.specs.Reduction.{Reduction, keeps, kept, count, whole, compose, valid_for, ValidFor}
use Rattle.reduction.specs.Between.Order.{lower}
use Rattle.reduction.specs.Between.Elimination.{better}
use Rattle.reduction.proofs.ValidLaws.{runs_valid, valid_end, valid_first}
use Rattle.reduction.proofs.ReductionLaws.{whole_valid, kept_length, kept_compose, compose_valid, left_cost}
use Rattle.reduction.proofs.LowerLaws.{lower_through}
use Rattle.reduction.specs.Minimal.{FirstDifference, Wins, Minimal}
use Rattle.reduction.specs.Between.Found.{begun_with, found, minimal}
use Rattle.reduction.proofs.minimal.WinsLaws.{not_lower_through, not_lower_wins, lower_wins, wins_not_lower, wins_behind, wins_once, full_whole}

-- whatever makes reductions valid, if they are all as long as the list, one at most is minimal
pub minimal_once : {Valid : Reduction → Type 0} {p : List Action} {m n : Reduction} → ((r : Reduction) → Valid r → length r ≡ length p)
    → Minimal Valid p m → Minimal Valid p n → m ≡ n
minimal_once {p = p} {m} {n} fits x y =
    wins_once p m n (fits m x.valid ∙ sym (fits n y.valid)) (x.wins n y.valid) (y.wins m x.valid)

-- of what a minimal reduction leaves, every valid reduction strikes nothing: together the two are a reduction of the plan, and no dearer
pub nothing_more : {ends : State → Bool} {s : State} {p : List Action} {m : Reduction}
    → Minimal (ValidFor ends s p) p m → (n : Reduction) → ValidFor ends s (kept m p) n → n ≡ whole (kept m p)
nothing_more {ends} {s} {p} {m} x n v = full_whole (kept m p) n v.fits (omega (arith, against.no_longer dear, ap length (kept_compose m n p), steps))
  where
    both : ValidFor ends s p (compose m n)
    both = compose_valid p m n x.valid.fits v

    against : Wins p m (compose m n)
    against = x.wins (compose m n) both

    dear : cost (kept m p) ≡ cost (kept (compose m n) p)
    dear = omega (arith, against.no_dearer, ap cost (kept_compose m n p), left_cost n (kept m p) v.fits)

    steps : (length (kept m p) ≡ count m) × (length (kept (compose m n) p) ≡ count (compose m n)) × (length (kept n (kept m p)) ≡ count n)
    steps = (kept_length m p x.valid.fits, kept_length (compose m n) p both.fits, kept_length n (kept m p) v.fits)

module _ (ends : State → Bool) where
  module _ (s : State) (a : Action) (p : List Action) where
    pub struck_valid : {m : Reduction} → ValidFor ends s p m → ValidFor ends s (a ∷ p) (false ∷ m)
    unfolding kept
    struck_valid v = record { fits = ap suc v.fits; valid_left = v.valid_left }

    pub kept_valid : {m : Reduction} → applicable s a ≡ true → ValidFor ends (apply s a) p m → ValidFor ends s (a ∷ p) (true ∷ m)
    unfolding kept valid_for
    kept_valid {m} able v = record { fits = ap suc v.fits; valid_left = rw (run_applied s a (kept m p) able, valid_for) v.valid_left }

    -- the other way
    pub valid_struck : {m : Reduction} → ValidFor ends s (a ∷ p) (false ∷ m) → ValidFor ends s p m
    unfolding kept
    valid_struck v = record { fits = omega (arith, v.fits); valid_left = v.valid_left }

    pub valid_kept : {m : Reduction} → ValidFor ends s (a ∷ p) (true ∷ m) → (applicable s a ≡ true) × ValidFor ends (apply s a) p m
    unfolding kept
    valid_kept {m} v =
        let (t, done, rest) = valid_first ends s a (kept m p) v.valid_left in
        (result_applicable s a done, record { fits = omega (arith, v.fits); valid_left = rw (result_assigned s a done) at rest })

    -- what is found of the reductions that begin with b: the winner among them, where one is valid
    abbrev Begun : Bool → Option Reduction → Type 0
    Begun b none = (n : Reduction) → ValidFor ends s (a ∷ p) (b ∷ n) → ⊥
    Begun b (some m) = ValidFor ends s (a ∷ p) (b ∷ m) × ((n : Reduction) → ValidFor ends s (a ∷ p) (b ∷ n) → Wins (a ∷ p) (b ∷ m) (b ∷ n))

  -- what is found of all: the minimal reduction, where one is valid
  abbrev Choice : State → List Action → Option Reduction → Type 0
  Choice s p none = (n : Reduction) → ValidFor ends s p n → ⊥
  Choice s p (some m) = Minimal (ValidFor ends s p) p m

  module _ (s : State) (a : Action) (p : List Action) where
    begun_struck : (x : Option Reduction) → Choice s p x → Begun s a p false x
    begun_struck none c = λ n v. c n (valid_struck s a p v)
    begun_struck (some m) c = (struck_valid s a p c.valid, λ n v. wins_behind false a p m n (c.wins n (valid_struck s a p v)))

    begun_kept : (y : Option Reduction) → applicable s a ≡ true → Choice (apply s a) p y → Begun s a p true y
    begun_kept none able c = λ n v. c n (valid_kept s a p v).1
    begun_kept (some m) able c = (kept_valid s a p able c.valid, λ n v. wins_behind true a p m n (c.wins n (valid_kept s a p v).1))

    begun_stuck : applicable s a ≡ false → Begun s a p true none
    begun_stuck e n v = true≢false (sym (valid_kept s a p v).0 ∙ e)

    -- a valid reduction strikes the first step or keeps it
    by_beginning : (P : Reduction → Type 0) → ((n : Reduction) → ValidFor ends s (a ∷ p) (false ∷ n) → P (false ∷ n))
        → ((n : Reduction) → ValidFor ends s (a ∷ p) (true ∷ n) → P (true ∷ n)) → (n : Reduction) → ValidFor ends s (a ∷ p) n → P n
    by_beginning P struck done [] v = absurd (omega (arith, v.fits))
    by_beginning P struck done (false ∷ n) v = struck n v
    by_beginning P struck done (true ∷ n) v = done n v

    -- a reduction that strikes the first step wins against one that keeps it and is not lower
    strikes_wins : (m n : Reduction) → ValidFor ends s (a ∷ p) (false ∷ m) → ValidFor ends s (a ∷ p) (true ∷ n)
        → lower (kept (true ∷ n) (a ∷ p)) (kept (false ∷ m) (a ∷ p)) ≡ false → Wins (a ∷ p) (false ∷ m) (true ∷ n)
    strikes_wins m n v w h = not_lower_wins (a ∷ p) (false ∷ m) (true ∷ n) v.fits w.fits h strikes
      where
        strikes : (i : ℕ) → FirstDifference (false ∷ m) (true ∷ n) i → keeps (true ∷ n) i
        strikes zero d = refl
        strikes (suc i) d = absurd (false≢true (d.before 0 (omega arith)))

    better_choice : (x y : Option Reduction) → Begun s a p false x → Begun s a p true y
        → Choice s (a ∷ p) (better (a ∷ p) (begun_with false x) (begun_with true y))
    unfolding better
    better_choice none none c d = by_beginning (λ n. ⊥) c d
    better_choice (some m) none c d = record { valid = c.0; wins = by_beginning (λ n. Wins (a ∷ p) (false ∷ m) n) c.1 (λ n v. absurd (d n v)) }
    better_choice none (some n) c d = record { valid = d.0; wins = by_beginning (λ m. Wins (a ∷ p) (true ∷ n) m) (λ m v. absurd (c m v)) d.1 }
    better_choice (some m) (some n) c d = by_case (lower (kept (true ∷ n) (a ∷ p)) (kept (false ∷ m) (a ∷ p))) refl
      where
        left : Reduction → List Action
        left r = kept r (a ∷ p)

        by_case : (b : Bool) → lower (left (true ∷ n)) (left (false ∷ m)) ≡ b → Choice s (a ∷ p) (cond b (some (true ∷ n)) (some (false ∷ m)))
        by_case true e =
            record {
              valid = d.0;
              wins =
                  by_beginning (λ r. Wins (a ∷ p) (true ∷ n) r)
                  (λ r v.
                  lower_wins (a ∷ p) (true ∷ n) (false ∷ r) d.0.fits v.fits
                  (lower_through (left (true ∷ n)) (left (false ∷ m)) (left (false ∷ r)) e
                  (wins_not_lower (a ∷ p) (false ∷ m) (false ∷ r) c.0.fits v.fits (c.1 r v))))
                  d.1;
            }
        by_case false e =
            record {
              valid = c.0;
              wins =
                  by_beginning (λ r. Wins (a ∷ p) (false ∷ m) r) c.1
                  (λ r v.
                  strikes_wins m r c.0 v
                  (not_lower_through (left (true ∷ r)) (left (true ∷ n)) (left (false ∷ m))
                  (wins_not_lower (a ∷ p) (true ∷ n) (true ∷ r) d.0.fits v.fits (d.1 r v)) e));
            }

  module _ (s : State) where
    pub found_met : ends s ≡ true → found ends s [] ≡ some []
    unfolding found
    found_met e = rw (e, found)

    pub found_unmet : ends s ≡ false → found ends s [] ≡ none
    unfolding found
    found_unmet e = rw (e, found)

  module _ (s : State) (a : Action) (p : List Action) where
    pub found_done : applicable s a ≡ true
        → found ends s (a ∷ p) ≡ better (a ∷ p) (begun_with false (found ends s p)) (begun_with true (found ends (apply s a) p))
    unfolding found
    found_done e = rw (e, found)

    pub found_stuck : applicable s a ≡ false → found ends s (a ∷ p) ≡ better (a ∷ p) (begun_with false (found ends s p)) none
    unfolding found
    found_stuck e = rw (e, found)

  found_choice : (s : State) (p : List Action) → Choice s p (found ends s p)
  unfolding kept
  found_choice s [] = by_case (ends s) refl
    where
      alone : (n : Reduction) → ValidFor ends s [] n → Wins [] [] n
      alone [] v = record { no_dearer = omega arith; no_longer = λ same. omega arith; strikes_first = λ same even i d. absurd (d.here refl) }
      alone (b ∷ n) v = absurd (omega (arith, v.fits))

      by_case : (b : Bool) → ends s ≡ b → Choice s [] (found ends s [])
      by_case true e = rw (found_met s e) (record { valid = record { fits = refl; valid_left = runs_valid ends s s [] (run_nothing s) ∙ e }; wins = alone })
      by_case false e = rw (found_unmet s e) (λ n v. true≢false (sym (valid_end ends s v.valid_left) ∙ e))
  found_choice s (a ∷ p) = by_case (found_choice s p) (found_choice (apply s a) p) (applicable s a) refl
    where
      struck : Option Reduction
      struck = found ends s p

      done : Option Reduction
      done = found ends (apply s a) p

      by_case : Choice s p struck → Choice (apply s a) p done → (b : Bool) → applicable s a ≡ b → Choice s (a ∷ p) (found ends s (a ∷ p))
      by_case c d true e = rw (found_done s a p e) (better_choice s a p struck done (begun_struck s a p struck c) (begun_kept s a p done e d))
      by_case c d false e = rw (found_stuck s a p e) (better_choice s a p struck none (begun_struck s a p struck c) (begun_stuck s a p e))

  -- what is found is the minimal reduction
  pub found_minimal : {m : Reduction} (s : State) (p : List Action) → found ends s p ≡ some m → Minimal (ValidFor ends s p) p m
  found_minimal s p h = subst (Choice s p) h (found_choice s p)

  -- where a reduction is valid, one is found
  pub valid_found : (s : State) (p : List Action) (n : Reduction) → ValidFor ends s p n → (m : Reduction) × (found ends s p ≡ some m)
  valid_found s p n v = by_case (found ends s p) refl
    where
      by_case : (x : Option Reduction) → found ends s p ≡ x → (m : Reduction) × (found ends s p ≡ some m)
      by_case (some m) e = (m, e)
      by_case none e = absurd (subst (Choice s p) e (found_choice s p) n v)

  -- so one is found of every list that is valid
  pub minimal_found : (s : State) (p : List Action) → valid_for ends s p ≡ true → Minimal (ValidFor ends s p) p (minimal ends s p)
  unfolding minimal
  minimal_found s p h = let (m, e) = valid_found s p (whole p) (whole_valid p h) in rw e (found_minimal s p e)
