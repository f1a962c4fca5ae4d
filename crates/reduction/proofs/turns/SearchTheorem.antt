-- The search returns what `minimal` computes, and so the minimal reduction of a list that is valid, whatever sound tests it is told. By induction on the
-- steps left: both turns update the best with what is found of the rest, since a cut leaves out only what has no chance. Assumes nothing.
use Prim.Native.Nat.{ℕ, zero, suc, ◌+◌, ◌<◌}
use native.Mathlib.Numerals.{add-one}
use native.Mathlib.Omega.{arith}
use mathlib.Core.Path.{◌≡◌, refl, sym, ◌∙◌, ap}
use mathlib.Core.Bool.{Bool, true, false, cond, true≢false, false≢true}
use mathlib.Core.Option
use mathlib.Core.Option.{Option, none, some}
use mathlib.Core.List.{List, [], ◌∷◌, ◌++◌, append-nil}
use lib.ListN.{length, get_or, set, take, drop, length-set, drop_of_length-le}
use lib.Seq.{length-take-le, take_all, take-suc, take-suc-set, drop-cons, drop-drop, drop-set-lt, split_at, take_at, get_or_at}
use Rattle.sas.specs.Task.{State, Action, idle}
use Rattle.sas.specs.Plan.{applicable, apply}
use Rattle.reduction.specs.Reduction.{Reduction, kept, whole, valid_for, ValidFor}
use Rattle.reduction.specs.Between.Order.{lower}
use Rattle.reduction.specs.Landmark.{step}
use Rattle.reduction.specs.Between.Elimination.{better}
use Rattle.reduction.specs.Minimal.{Minimal}
use Rattle.reduction.specs.Between.Found.{begun_with, found, minimal}
use Rattle.reduction.specs.Between.Search.{Visit, Tests, struck, done, handed, turn, first_visit, search}
use Rattle.reduction.specs.Between.Search.Turn.{strike, keep}
use Rattle.reduction.specs.Between.Sound.{Visited, Hopeless, Sound}
use Rattle.reduction.proofs.ReductionLaws.{kept_whole, alike_behind}
use Rattle.reduction.proofs.minimal.WinsLaws.{lowest_whole, wins_not_lower, wins_behind}
use Rattle.reduction.proofs.minimal.BeforeLaws.{before_first, before_struck, before_kept, completed_valid}
use Rattle.reduction.proofs.minimal.MinimalTheorem.{struck_valid, valid_struck, kept_valid, found_met, found_unmet, found_done, found_stuck, found_minimal, valid_found, minimal_found}
use Rattle.reduction.proofs.turns.UpdateLaws.{not_lower_of, alike, update, update_decided, update_twice}
use Rattle.reduction.proofs.turns.TurnLaws.{turns, search_turns, strike_met, strike_unmet, strike_not_lower, keep_end}
use Rattle.reduction.proofs.turns.TurnLaws.{strike_flagged, strike_barred, strike_goes_on, keep_stuck, keep_barred, keep_goes_on}
use Rattle.reduction.proofs.turns.CutLaws.{follows_rest}

-- the step of a visit, the steps behind it, and what was decided before it
abbrev here : List Action → Visit → Action
here p v = step p v.index

abbrev later : List Action → Visit → List Action
later p v = drop (v.index + 1) p

abbrev decided : Visit → Reduction
decided v = take v.index v.so_far

-- what is found behind a visit's step from the state t, with the choice made there
abbrev chosen : (State → Bool) → List Action → Visit → Bool → State → Option Reduction
chosen ends p v c t = begun_with c (found ends t (later p v))

-- both turns at a visit update its best with what is found of the rest, behind what was decided
abbrev Finds : Tests → List Action → Visit → Type 0
Finds T p v = turns T p (drop v.index p) v ≡ update p (decided v) v.best (found T.ends v.state (drop v.index p))

module _ (T : Tests) (s : State) (p : List Action) (v : Visit) (inside : v.index < length p) (visited : Visited s p T.flags v) where
  steps_next : drop v.index p ≡ here p v ∷ later p v
  steps_next = rw add-one (drop-cons p v.index idle inside)

  decided_length : length (decided v) ≡ v.index
  decided_length = length-take-le v.index v.so_far (omega (arith, visited.fits))

  -- so far the step is kept where it is flagged
  flag_here : get_or v.so_far v.index false ≡ get_or T.flags v.index false
  flag_here = alike_behind v.so_far T.flags v.index v.index visited.to_come (omega arith)

  later_alike : drop (v.index + 1) v.so_far ≡ drop (v.index + 1) T.flags
  later_alike = sym (drop-drop 1 v.index v.so_far) ∙ ap (drop 1) visited.to_come ∙ drop-drop 1 v.index T.flags

  -- one decision more
  decides_strike : get_or T.flags v.index false ≡ false → take (suc v.index) v.so_far ≡ decided v ++ (false ∷ [])
  decides_strike down = take-suc v.so_far v.index false (omega (arith, visited.fits)) ∙ rw (flag_here, down)

  decides_keep : take (suc v.index) (set v.so_far v.index true) ≡ decided v ++ (true ∷ [])
  decides_keep = take-suc-set v.so_far v.index true (omega (arith, visited.fits))

  pub struck_visited : get_or T.flags v.index false ≡ false → Visited s p T.flags (struck v)
  struck_visited down =
      record {
        fits = visited.fits;
        reached = rw add-one (before_struck s v.state p v.so_far v.index visited.reached visited.fits v.so_far false inside (decides_strike down) refl);
        to_come = later_alike;
      }

  pub done_visited : applicable v.state (here p v) ≡ true → Visited s p T.flags (done (here p v) v)
  done_visited able =
      record {
        fits = length-set v.so_far v.index true ∙ visited.fits;
        reached =
            rw add-one
            (before_kept s v.state p v.so_far v.index visited.reached visited.fits (set v.so_far v.index true) true inside decides_keep refl able);
        to_come = drop-set-lt (v.index + 1) v.so_far v.index true (omega arith) ∙ later_alike;
      }

  -- a choice without a chance updates nothing
  hopeless_leaves : (c : Bool) (t : State) → ((n : Reduction) → ValidFor T.ends t (later p v) n → ValidFor T.ends v.state (here p v ∷ later p v) (c ∷ n))
      → Hopeless T.ends s p v c → v.best ≡ update p (decided v) v.best (chosen T.ends p v c t)
  hopeless_leaves c t valid hopeless = by_case (found T.ends t (later p v)) refl
    where
      by_case : (x : Option Reduction) → found T.ends t (later p v) ≡ x → v.best ≡ update p (decided v) v.best (begun_with c x)
      by_case none e = refl
      by_case (some n) e =
          let rest : ValidFor T.ends v.state (drop v.index p) (c ∷ n) = rw steps_next (valid n (found_minimal T.ends t (later p v) e).valid) in
          rw
          (hopeless (decided v ++ c ∷ n)
          (record {
            valid = completed_valid s v.state p v.so_far v.index visited.reached visited.fits (omega arith) rest;
            decided = take_at (decided v) (c ∷ n) v.index decided_length;
            chosen = get_or_at (decided v) c n false v.index decided_length;
          }))

  handed_visited : (b : Reduction) → Visited s p T.flags (handed v b)
  handed_visited b = record { fits = visited.fits; reached = visited.reached; to_come = visited.to_come }

  -- no valid reduction that strikes the step is lower than the best updated with what is found so
  strike_tried : Hopeless T.ends s p (handed v (update p (decided v) v.best (chosen T.ends p v false v.state))) false
  strike_tried r follows = not_lower_found (valid_found T.ends v.state (later p v) n rest)
    where
      n : Reduction
      n = drop (v.index + 1) r

      begins : r ≡ decided v ++ false ∷ n
      begins =
          split_at r v.index false (omega (arith, follows.valid.fits))
          ∙ rw (follows.decided, follows.chosen, add-one)

      all : ValidFor T.ends v.state (here p v ∷ later p v) (false ∷ n)
      all = follows_rest inside (handed_visited _) follows

      rest : ValidFor T.ends v.state (later p v) n
      rest = valid_struck T.ends v.state (here p v) (later p v) all

      not_lower_found : (k : Reduction) × (found T.ends v.state (later p v) ≡ some k)
          → lower (kept r p) (kept (update p (decided v) v.best (chosen T.ends p v false v.state)) p) ≡ false
      not_lower_found (k, e) =
          let least = found_minimal T.ends v.state (later p v) e in
          let whole_k = struck_valid T.ends v.state (here p v) (later p v) least.valid in
          let high : lower (kept (false ∷ n) (here p v ∷ later p v)) (kept (false ∷ k) (here p v ∷ later p v)) ≡ false =
          wins_not_lower (here p v ∷ later p v) (false ∷ k) (false ∷ n) whole_k.fits all.fits (wins_behind false (here p v) (later p v) k n (least.wins n rest)) in
          rw e (not_lower_of p v.best (decided v ++ false ∷ k) r (rw (begins, alike p (decided v) (false ∷ n) (false ∷ k), decided_length, steps_next) high))

  module _ (next : (w : Visit) → w.index ≡ v.index + 1 → Visited s p T.flags w → Finds T p w) where
    strike_finds : Sound T s p → turn T p strike (drop v.index p) v ≡ update p (decided v) v.best (chosen T.ends p v false v.state)
    strike_finds sound = rw steps_next (by_case (get_or T.flags v.index false) (T.may_strike v) refl refl)
      where
        unstruck : Hopeless T.ends s p v false → v.best ≡ update p (decided v) v.best (chosen T.ends p v false v.state)
        unstruck = hopeless_leaves false v.state (λ n. struck_valid T.ends v.state (here p v) (later p v))

        by_case : (x y : Bool) → get_or T.flags v.index false ≡ x → T.may_strike v ≡ y
            → turn T p strike (here p v ∷ later p v) v ≡ update p (decided v) v.best (chosen T.ends p v false v.state)
        by_case true y e f =
            strike_flagged T p (here p v) (later p v) v e
            ∙ unstruck (λ r follows. absurd (true≢false (sym (sound.flagged r follows.valid v.index e) ∙ follows.chosen)))
        by_case false false e f = strike_barred T p (here p v) (later p v) v f ∙ unstruck (sound.strikes v inside visited (λ up. absurd (false≢true up)) f)
        by_case false true e f =
            strike_goes_on T p (here p v) (later p v) v e f
            ∙ next (struck v) refl (struck_visited e)
            ∙ rw (add-one, decides_strike e) (update_decided p (decided v) false v.best (found T.ends v.state (drop (suc v.index) p)))

    keep_finds : Sound T s p → Hopeless T.ends s p v false → applicable v.state (here p v) ≡ true
        → turn T p keep (drop v.index p) v ≡ update p (decided v) v.best (chosen T.ends p v true (apply v.state (here p v)))
    keep_finds sound tried able = rw steps_next (by_case (T.may_keep v) refl)
      where
        after : State
        after = apply v.state (here p v)

        by_case : (y : Bool) → T.may_keep v ≡ y → turn T p keep (here p v ∷ later p v) v ≡ update p (decided v) v.best (chosen T.ends p v true after)
        by_case false f =
            keep_barred T p (here p v) (later p v) v f
            ∙ hopeless_leaves true after (λ n. kept_valid T.ends v.state (here p v) (later p v) able) (sound.keeps v inside visited (λ up. tried) f)
        by_case true f =
            keep_goes_on T p (here p v) (later p v) v able f
            ∙ next (done (here p v) v) refl (done_visited able)
            ∙ rw (add-one, decides_keep) (update_decided p (decided v) true v.best (found T.ends after (drop (suc v.index) p)))

-- so both turns find what is found of the rest, where they do at the next step
both_find : (T : Tests) (s : State) (p : List Action) → Sound T s p → (v : Visit) → v.index < length p → Visited s p T.flags v
    → ((w : Visit) → w.index ≡ v.index + 1 → Visited s p T.flags w → Finds T p w) → Finds T p v
both_find T s p sound v inside visited next = rw (strike_finds T s p v inside visited next sound) (by_case (applicable v.state (here p v)) refl)
  where
    steps : drop v.index p ≡ here p v ∷ later p v
    steps = steps_next T s p v inside visited

    tried : Reduction
    tried = update p (decided v) v.best (chosen T.ends p v false v.state)

    twice : (y : Option Reduction) → update p (decided v) tried y ≡ update p (decided v) v.best (better (here p v ∷ later p v) (chosen T.ends p v false v.state) y)
    twice y =
        rw (decided_length T s p v inside visited, steps) at (update_twice p (decided v) v.best (chosen T.ends p v false v.state) y)

    by_case : (t : Bool) → applicable v.state (here p v) ≡ t
        → turn T p keep (drop v.index p) (handed v tried) ≡ update p (decided v) v.best (found T.ends v.state (drop v.index p))
    by_case true e =
        keep_finds T s p (handed v tried) inside (handed_visited T s p v inside visited tried) next sound (strike_tried T s p v inside visited) e
        ∙ twice (chosen T.ends p v true (apply v.state (here p v)))
        ∙ rw (steps, found_done T.ends v.state (here p v) (later p v) e)
    by_case false e = rw (steps, keep_stuck T p (here p v) (later p v) (handed v tried) e, found_stuck T.ends v.state (here p v) (later p v) e) (twice none)

-- and at the end of the plan
end_finds : (T : Tests) (p : List Action) (v : Visit) → v.index ≡ length p → length v.so_far ≡ length p → Finds T p v
end_finds T p v over fits =
    rw (drop_of_length-le p {i = v.index} (omega arith), take_all v.index v.so_far (omega arith), keep_end T p (handed v (turn T p strike [] v)))
    (by_case (T.ends v.state) (lower (kept v.so_far p) (kept v.best p)) refl refl)
  where
    by_case : (x y : Bool) → T.ends v.state ≡ x → lower (kept v.so_far p) (kept v.best p) ≡ y
        → turn T p strike [] v ≡ update p v.so_far v.best (found T.ends v.state [])
    by_case true true e f = rw (found_met T.ends v.state e, append-nil, f) (strike_met T p v f e)
    by_case true false e f = rw (found_met T.ends v.state e, append-nil, f) (strike_not_lower T p v f)
    by_case false y e f = rw (found_unmet T.ends v.state e) (strike_unmet T p v e)

turns_find : (T : Tests) (s : State) (p : List Action) → Sound T s p → (left : ℕ) (v : Visit) → v.index + left ≡ length p → Visited s p T.flags v → Finds T p v
turns_find T s p sound zero v all visited = end_finds T p v (omega arith) visited.fits
turns_find T s p sound (suc left) v all visited =
    both_find T s p sound v (omega arith) visited (λ w index. turns_find T s p sound left w (omega arith))

-- the search returns what `minimal` computes
pub search_finds : (T : Tests) (s : State) (p : List Action) → Sound T s p → search T s p ≡ minimal T.ends s p
unfolding minimal
search_finds T s p sound =
    search_turns T s p
    ∙ turns_find T s p sound (length p) (first_visit T s p) (omega arith) (record { fits = sound.fits; reached = before_first s p T.flags; to_come = refl })
    ∙ by_case (found T.ends s p) refl
  where
    lowest : (n : Reduction) → length n ≡ length p → (t : Bool) → lower (kept n p) (kept (whole p) p) ≡ t → cond t n (whole p) ≡ n
    lowest n fits true e = refl
    lowest n fits false e = sym (lowest_whole p n fits (rw kept_whole at e))

    by_case : (x : Option Reduction) → found T.ends s p ≡ x → update p [] (whole p) x ≡ Option.get_or x (whole p)
    by_case none e = refl
    by_case (some n) e = lowest n (found_minimal T.ends s p e).valid.fits (lower (kept n p) (kept (whole p) p)) refl

-- and so the minimal reduction of a list that is valid
pub search_minimal : (T : Tests) (s : State) (p : List Action) → Sound T s p → valid_for T.ends s p ≡ true → Minimal (ValidFor T.ends s p) p (search T s p)
search_minimal T s p sound v = rw (search_finds T s p sound) (minimal_found T.ends s p v)
