-- The tallies so far, step by step: each is that of the steps before an index, of those kept among them, or of those struck, and of a list that can be read the
-- plain sum and number of them. Assumes nothing.
use Prim.Native.Nat.{ℕ, zero, suc, ◌+◌, ◌≤◌, ◌<◌}
use native.Mathlib.Numerals.{add-one}
use native.Mathlib.Omega.{arith}
use mathlib.Core.Path.{◌≡◌, refl, sym, ◌∙◌, ap}
use mathlib.Core.Bool.{Bool, true, false, not, false≢true, true≢false}
use mathlib.Core.List.Memᴰ
use mathlib.Core.List.{List, [], ◌∷◌, ◌++◌, map, Memᴰ}
use lib.ListN.{length, get_or, take, length-take}
use lib.Seq.{take-suc}
use Rattle.tally.specs.declared.Tally.{Tally}
use Rattle.tally.specs.Tally.{bounds, nothing, one_more, after}
use Rattle.sheet.specs.Layout.{cost_word}
use Rattle.plan.specs.Readable.{Readable}
use Rattle.plan.specs.Checked.{lodged_tally}
use Rattle.plan.proofs.PlanLaws.{walked_tally}
use Rattle.reduction.specs.Reduction.{Reduction, kept}
use Rattle.reduction.proofs.ReductionLaws.{kept_lodged}
use Rattle.moves.specs.declared.tallies.Tallies.{Tallies}
use Rattle.moves.specs.Moves.{struck_by}
use Rattle.moves.specs.Between.Tallied.{none_yet, with_one}

-- the tally of these steps as it is counted
abbrev counted : List ℕ → List ℕ → Tally
counted w p = after nothing (map (cost_word w) p)

after_last : (w p : List ℕ) (a : ℕ) (t : Tally) → after t (map (cost_word w) (p ++ (a ∷ []))) ≡ one_more (after t (map (cost_word w) p)) (cost_word w a)
unfolding after
after_last w [] a t = refl
after_last w (b ∷ p) a t = after_last w p a (one_more t (cost_word w b))

-- one step more
taken_last : (l : List ℕ) (i : ℕ) → i < length l → take (i + 1) l ≡ take i l ++ (get_or l i 0 ∷ [])
taken_last l i here = rw (add-one i) (take-suc l i 0 here)

kept_up : (m : Reduction) (l : List ℕ) (i : ℕ) → i < length l → get_or m i false ≡ true → kept m (take (suc i) l) ≡ kept m (take i l) ++ (get_or l i 0 ∷ [])
unfolding kept
kept_up m [] i here up = absurd (omega arith)
kept_up [] (a ∷ l) i here up = absurd (false≢true up)
kept_up (true ∷ m) (a ∷ l) zero here up = refl
kept_up (false ∷ m) (a ∷ l) zero here up = absurd (false≢true up)
kept_up (true ∷ m) (a ∷ l) (suc i) here up = ap (λ p. a ∷ p) (kept_up m l i (omega arith) up)
kept_up (false ∷ m) (a ∷ l) (suc i) here up = kept_up m l i (omega arith) up

kept_down : (m : Reduction) (l : List ℕ) (i : ℕ) → i < length l → get_or m i false ≡ false → kept m (take (suc i) l) ≡ kept m (take i l)
unfolding kept
kept_down m [] i here down = absurd (omega arith)
kept_down [] (a ∷ l) zero here down = refl
kept_down [] (a ∷ l) (suc i) here down = refl
kept_down (true ∷ m) (a ∷ l) zero here down = absurd (true≢false down)
kept_down (false ∷ m) (a ∷ l) zero here down = refl
kept_down (true ∷ m) (a ∷ l) (suc i) here down = ap (λ p. a ∷ p) (kept_down m l i (omega arith) down)
kept_down (false ∷ m) (a ∷ l) (suc i) here down = kept_down m l i (omega arith) down

-- a flag of the steps that are struck
struck_flag : (m : Reduction) (i : ℕ) → i < length m → get_or (struck_by m) i false ≡ not (get_or m i false)
struck_flag [] i here = absurd (omega arith)
struck_flag (b ∷ m) zero here = refl
struck_flag (b ∷ m) (suc i) here = struck_flag m i (omega arith)

-- the tallies before index i
pub record Counting (w l : List ℕ) (m : Reduction) (i : ℕ) (t : Tallies) : Type 0 where
  pub lodged : t.lodged ≡ counted w (take i l)
  pub left : t.left ≡ counted w (kept m (take i l))
  pub struck : t.struck ≡ counted w (kept (struck_by m) (take i l))

pub counting_start : (w l : List ℕ) (m : Reduction) → Counting w l m 0 none_yet
unfolding after kept
counting_start w l m = record { lodged = refl; left = refl; struck = refl }

module _ (w l : List ℕ) (m : Reduction) (i : ℕ) (t : Tallies) (so : Counting w l m i t) (here : i < length l) (fits : length m ≡ length l) (c : ℕ) (price : c ≡ cost_word w (get_or l i 0)) where
  lodged_next : one_more t.lodged c ≡ counted w (take (i + 1) l)
  lodged_next = rw (so.lodged, price, taken_last l i here) (sym (after_last w (take i l) (get_or l i 0) nothing))

  kept_next : (n : Reduction) (u : Tally) → u ≡ counted w (kept n (take i l)) → get_or n i false ≡ true → one_more u c ≡ counted w (kept n (take (i + 1) l))
  kept_next n u is up = rw (is, price, add-one i, kept_up n l i here up) (sym (after_last w (kept n (take i l)) (get_or l i 0) nothing))

  kept_same : (n : Reduction) (u : Tally) → u ≡ counted w (kept n (take i l)) → get_or n i false ≡ false → u ≡ counted w (kept n (take (i + 1) l))
  kept_same n u is down = rw (add-one i, kept_down n l i here down) is

  pub counting_more : (b : Bool) → b ≡ get_or m i false → Counting w l m (i + 1) (with_one t c b)
  counting_more true up =
      record {
        lodged = lodged_next;
        left = kept_next m t.left so.left (sym up);
        struck = kept_same (struck_by m) t.struck so.struck (struck_flag m i (omega arith) ∙ rw (← up));
      }
  counting_more false down =
      record {
        lodged = lodged_next;
        left = kept_same m t.left so.left (sym down);
        struck = kept_next (struck_by m) t.struck so.struck (struck_flag m i (omega arith) ∙ rw (← down));
      }

-- the first steps of a list are among its steps
taken_lodged : {a : ℕ} (l : List ℕ) (i : ℕ) → Memᴰ a (take i l) → Memᴰ a l
taken_lodged l zero m = absurd (Memᴰ.not-nil m)
taken_lodged [] (suc i) m = absurd (Memᴰ.not-nil m)
taken_lodged (b ∷ l) (suc i) (Memᴰ.head e) = Memᴰ.head e
taken_lodged (b ∷ l) (suc i) (Memᴰ.tail m) = Memᴰ.tail (taken_lodged l i m)

-- and no more steps are kept than there are
kept_few : (m : Reduction) (p : List ℕ) → length (kept m p) ≤ length p
unfolding kept
kept_few m [] = omega arith
kept_few [] (a ∷ p) = omega arith
kept_few (true ∷ m) (a ∷ p) = omega (arith, kept_few m p)
kept_few (false ∷ m) (a ∷ p) = omega (arith, kept_few m p)

-- of a list that can be read the tallies are plain
module _ (w l : List ℕ) (readable : Readable w l) (m : Reduction) (i : ℕ) (t : Tallies) (so : Counting w l m i t) where
  first_few : length (take i l) ≤ bounds.steps
  first_few = omega (arith, length-take i l, readable.few)

  kept_plain : (n : Reduction) → counted w (kept n (take i l)) ≡ lodged_tally w (kept n (take i l))
  kept_plain n =
      walked_tally w (kept n (take i l)) readable.accepted (λ a left. readable.known a (taken_lodged l i (kept_lodged n (take i l) left)))
      (omega (arith, kept_few n (take i l), first_few))

  pub lodged_plain : t.lodged ≡ lodged_tally w (take i l)
  lodged_plain = so.lodged ∙ walked_tally w (take i l) readable.accepted (λ a taken. readable.known a (taken_lodged l i taken)) first_few

  pub left_plain : t.left ≡ lodged_tally w (kept m (take i l))
  left_plain = so.left ∙ kept_plain m

  pub struck_plain : t.struck ≡ lodged_tally w (kept (struck_by m) (take i l))
  struck_plain = so.struck ∙ kept_plain (struck_by m)
