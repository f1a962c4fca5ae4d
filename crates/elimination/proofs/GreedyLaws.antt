-- Greedy elimination, round by round: the rounds that are left lead to what all rounds lead to. Assumes nothing.
use Prim.Native.Nat.{ℕ, zero, suc, ◌+◌, ◌-◌, ◌≤◌, ◌<◌}
use native.Mathlib.Omega.{arith}
use mathlib.Core.Path.{◌≡◌, refl, sym, ◌∙◌, ap, subst}
use mathlib.Core.Bool.{true, false, true≢false}
use mathlib.Core.Option.{none, some}
use mathlib.Core.List.{List}
use lib.ListN.{length, length-map}
use Rattle.sheet.specs.Decode.{initial, goal, action}
use Rattle.plan.specs.Limits.{most_steps}
use Rattle.plan.specs.Valid.{steps}
use Rattle.reduction.specs.Reduction.{Reduction, valid}
use Rattle.reduction.specs.Between.Elimination.{best, rounds, greedy}
use Rattle.reduction.proofs.minimal.BeforeLaws.{before_first}
use Rattle.elimination.specs.declared.greedy.Best.{Best}
use Rattle.reduced.specs.Between.Held.{mask, flags_of, none_struck}
use Rattle.trial.specs.Between.Current.{Current}
use Rattle.elimination.specs.Between.Round.{Picks, Looks}
use Rattle.elimination.proofs.EliminateLaws.{all_current, all_mask}

-- before the first position nothing is found
pub looks_start : (w l : List ℕ) (m : Reduction) (r : Best) (values : List ℕ) → r.found ≡ false → values ≡ initial w → Looks w l m 0 r values
unfolding best
looks_start w l m r values none_yet starts =
    record {
      picks = record { nothing_found = λ f. refl; best_found = λ f. absurd (true≢false (sym f ∙ none_yet)); current = λ f. absurd (true≢false (sym f ∙ none_yet)); balanced = λ f. absurd (true≢false (sym f ∙ none_yet)) };
      before = rw starts (before_first (initial w) (steps w l) m);
    }

-- past the last position all are looked at
pub looks_all : (w l : List ℕ) (m : Reduction) (i : ℕ) (r : Best) (values : List ℕ) → Looks w l m i r values → i ≤ length l → length l ≤ i → Picks w l m (length l) r
looks_all w l m i r values looks within past = let all : i ≡ length l = omega arith in subst (λ n. Picks w l m n r) all looks.picks

-- the current list, after which some rounds are left
pub record Rounding (w l : List ℕ) (n : ℕ) (flags : Reduction) : Type 0 where
  pub within : n ≤ length l
  pub current : Current w l flags
  pub leads : rounds (initial w) (goal w) (steps w l) (length l - n) (mask l flags) ≡ greedy (initial w) (goal w) (steps w l)

pub rounding_start : (w l : List ℕ) (flags : Reduction) → length l ≤ most_steps → valid (initial w) (goal w) (steps w l) ≡ true
    → flags ≡ none_struck (length l) → Rounding w l 0 flags
unfolding greedy
rounding_start w l flags few v is =
    let all : length l - 0 ≡ length (steps w l) = sym (length-map l (action w) ∙ omega arith) in
    record { within = omega arith; current = all_current w l flags few is v; leads = rw (all, all_mask w l flags few is) }

module _ (w l : List ℕ) (n : ℕ) (flags : Reduction) (so : Rounding w l n flags) (here : n < length l) (r : Best) (picks : Picks w l (mask l flags) (length l) r) where
  one_left : length l - n ≡ suc (length l - (n + 1))
  one_left = omega arith

  positions : length (steps w l) ≡ length l
  positions = length-map l (action w)

  -- a round with a success
  pub rounding_more : r.found ≡ true → Rounding w l (n + 1) r.flags
  unfolding rounds
  rounding_more found =
      let chosen : best (initial w) (goal w) (steps w l) (mask l flags) (length (steps w l)) ≡ some (mask l r.flags) = rw positions (picks.best_found found) in
      let next : rounds (initial w) (goal w) (steps w l) (suc (length l - (n + 1))) (mask l flags) ≡ rounds (initial w) (goal w) (steps w l) (length l - (n + 1)) (mask l r.flags) = rw (chosen, rounds) in
      record { within = omega arith; current = picks.current found; leads = sym next ∙ rw one_left at so.leads }

  -- a round without
  pub rounding_ends : r.found ≡ false → flags ≡ flags_of l (greedy (initial w) (goal w) (steps w l))
  unfolding rounds
  rounding_ends nothing =
      let chosen : best (initial w) (goal w) (steps w l) (mask l flags) (length (steps w l)) ≡ none = rw positions (picks.nothing_found nothing) in
      let last : rounds (initial w) (goal w) (steps w l) (suc (length l - (n + 1))) (mask l flags) ≡ mask l flags = rw (chosen, rounds) in
      so.current.none_past ∙ ap (flags_of l) (sym last ∙ rw one_left at so.leads)

-- as many rounds as steps
pub rounding_over : (w l : List ℕ) (n : ℕ) (flags : Reduction) → Rounding w l n flags → length l ≤ n → flags ≡ flags_of l (greedy (initial w) (goal w) (steps w l))
unfolding rounds
rounding_over w l n flags so past =
    let none_left : length l - n ≡ zero = omega arith in
    so.current.none_past ∙ ap (flags_of l) (rw none_left at so.leads)
