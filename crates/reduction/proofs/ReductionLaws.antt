-- What a reduction leaves, reductions of reductions, and that a strike raises neither the number of steps nor the cost. By one walk along the
-- reductions; where a Boolean is missing its step counts as struck, so that few laws ask for the length. Assumes nothing.
use Prim.Native.Nat.{ℕ, zero, suc, ◌+◌, ◌-◌, ◌≤◌, ◌<◌}
use native.Mathlib.Omega.{arith}
use mathlib.Core.Path.{◌≡◌, refl, sym, ◌∙◌, ap}
use mathlib.Core.Bool.{Bool, true, false, false≢true}
use mathlib.Core.List.Memᴰ
use mathlib.Core.List.{List, [], ◌∷◌, ◌++◌, Memᴰ}
use lib.ListN.{length, get_or, take, drop, set, length-replicate, get_or-replicate, get_or-eq_default}
use lib.Seq.{take-append_seam, drop-append_seam, get_or-take, get_or-drop}
use lib.Dec.{ltb}
use borrow.Author.Tests.{ltb-true, ltb-false}
use Rattle.sas.specs.Task.{State, Action, Task}
use Rattle.sas.specs.Plan.{cost, Plan}
use Rattle.reduction.specs.Reduction.{Reduction, keeps, kept, count, whole, compose, valid_for, ValidFor, ValidReduction}
use Rattle.reduction.specs.Between.Order.{Contains}
use Rattle.reduction.proofs.ValidLaws.{valid_plan}

pub kept_whole : {A : Type 0} (p : List A) → kept (whole p) p ≡ p
unfolding kept
kept_whole [] = refl
kept_whole (a ∷ p) = ap (λ q. a ∷ q) (kept_whole p)

-- so what strikes nothing of a valid list is a valid reduction of it
pub whole_valid : {ends : State → Bool} {s : State} (p : List Action) → valid_for ends s p ≡ true → ValidFor ends s p (whole p)
whole_valid p v = record { fits = length-replicate (length p) true; valid_left = rw kept_whole v }

pub kept_none : {A : Type 0} (p : List A) → kept [] p ≡ []
unfolding kept
kept_none [] = refl
kept_none (a ∷ p) = refl

-- what is left before an index, and from there on
pub kept_split : {A : Type 0} (i : ℕ) (m : Reduction) (p : List A) → kept m p ≡ kept (take i m) (take i p) ++ kept (drop i m) (drop i p)
unfolding kept
kept_split zero m p = refl
kept_split (suc i) m [] = refl
kept_split (suc i) [] (a ∷ p) = sym (kept_none (drop i p))
kept_split (suc i) (true ∷ m) (a ∷ p) = ap (λ q. a ∷ q) (kept_split i m p)
kept_split (suc i) (false ∷ m) (a ∷ p) = kept_split i m p

-- so behind the decisions d about the first steps
pub kept_behind : {A : Type 0} (d m : Reduction) (p : List A) → kept (d ++ m) p ≡ kept d (take (length d) p) ++ kept m (drop (length d) p)
kept_behind d m p = rw (take-append_seam d m, drop-append_seam d m) at (kept_split (length d) (d ++ m) p)

-- what is left was lodged
pub kept_lodged : {A : Type 0} {a : A} (m : Reduction) (p : List A) → Memᴰ a (kept m p) → Memᴰ a p
unfolding kept
kept_lodged m [] left = left
kept_lodged [] (b ∷ p) left = absurd (Memᴰ.not-nil left)
kept_lodged (false ∷ m) (b ∷ p) left = Memᴰ.tail (kept_lodged m p left)
kept_lodged (true ∷ m) (b ∷ p) (Memᴰ.head same) = Memᴰ.head same
kept_lodged (true ∷ m) (b ∷ p) (Memᴰ.tail later) = Memᴰ.tail (kept_lodged m p later)

-- a valid reduction of a plan leaves a plan
pub reduced_plan : (T : Task) (p : List Action) (m : Reduction) → Plan T p → ValidReduction T.initial T.goal p m → Plan T (kept m p)
reduced_plan T p m plan v = valid_plan T (kept m p) (λ a left. plan.known a (kept_lodged m p left)) v.valid_left

pub compose_length : (r m : Reduction) → length (compose r m) ≡ length r
unfolding compose
compose_length [] m = refl
compose_length (false ∷ r) m = ap suc (compose_length r m)
compose_length (true ∷ r) [] = ap suc (compose_length r [])
compose_length (true ∷ r) (b ∷ m) = ap suc (compose_length r m)

pub kept_compose : {A : Type 0} (r m : Reduction) (p : List A) → kept (compose r m) p ≡ kept m (kept r p)
unfolding compose kept
kept_compose r m [] = refl
kept_compose [] m (a ∷ p) = refl
kept_compose (false ∷ r) m (a ∷ p) = kept_compose r m p
kept_compose (true ∷ r) [] (a ∷ p) = kept_compose r [] p ∙ kept_none (kept r p)
kept_compose (true ∷ r) (true ∷ m) (a ∷ p) = ap (λ q. a ∷ q) (kept_compose r m p)
kept_compose (true ∷ r) (false ∷ m) (a ∷ p) = kept_compose r m p

-- a valid reduction of what a reduction leaves makes a valid reduction of the lodged list
pub compose_valid : {ends : State → Bool} {s : State} (p : List Action) (r m : Reduction) → length r ≡ length p → ValidFor ends s (kept r p) m
    → ValidFor ends s p (compose r m)
compose_valid p r m fits v = record { fits = compose_length r m ∙ fits; valid_left = rw kept_compose v.valid_left }

pub count_whole : {A : Type 0} (p : List A) → count (whole p) ≡ length p
unfolding count
count_whole [] = refl
count_whole (a ∷ p) = ap suc (count_whole p)

-- the number of kept steps is the length of the list left
pub kept_length : {A : Type 0} (m : Reduction) (p : List A) → length m ≡ length p → length (kept m p) ≡ count m
unfolding kept count
kept_length [] [] fits = refl
kept_length [] (a ∷ p) fits = omega arith
kept_length (b ∷ m) [] fits = omega arith
kept_length (true ∷ m) (a ∷ p) fits = ap suc (kept_length m p (omega arith))
kept_length (false ∷ m) (a ∷ p) fits = kept_length m p (omega arith)

-- a strike does not raise the number of steps
pub strike_count : (m n : Reduction) → Contains m n → count n ≤ count m
unfolding count
strike_count m [] h = omega arith
strike_count [] (true ∷ n) h = absurd (false≢true (h 0 refl))
strike_count [] (false ∷ n) h = strike_count [] n (λ i. h (suc i))
strike_count (true ∷ m) (true ∷ n) h = omega (arith, strike_count m n (λ i. h (suc i)))
strike_count (false ∷ m) (true ∷ n) h = absurd (false≢true (h 0 refl))
strike_count (true ∷ m) (false ∷ n) h = omega (arith, strike_count m n (λ i. h (suc i)))
strike_count (false ∷ m) (false ∷ n) h = strike_count m n (λ i. h (suc i))

-- to strike one kept step lowers it by one
pub struck_count : (m : Reduction) (i : ℕ) → keeps m i → suc (count (set m i false)) ≡ count m
unfolding count
struck_count [] i k = absurd (false≢true k)
struck_count (true ∷ m) zero k = refl
struck_count (false ∷ m) zero k = absurd (false≢true k)
struck_count (true ∷ m) (suc i) k = ap suc (struck_count m i k)
struck_count (false ∷ m) (suc i) k = struck_count m i k

-- nor does it raise the cost
pub strike_cost : (m n : Reduction) (p : List Action) → Contains m n → cost (kept n p) ≤ cost (kept m p)
unfolding kept cost
strike_cost m n [] h = omega arith
strike_cost m [] (a ∷ p) h = omega arith
strike_cost [] (true ∷ n) (a ∷ p) h = absurd (false≢true (h 0 refl))
strike_cost [] (false ∷ n) (a ∷ p) h = rw kept_none at (strike_cost [] n p (λ i. h (suc i)))
strike_cost (true ∷ m) (true ∷ n) (a ∷ p) h = omega (arith, strike_cost m n p (λ i. h (suc i)))
strike_cost (false ∷ m) (true ∷ n) (a ∷ p) h = absurd (false≢true (h 0 refl))
strike_cost (true ∷ m) (false ∷ n) (a ∷ p) h = omega (arith, strike_cost m n p (λ i. h (suc i)))
strike_cost (false ∷ m) (false ∷ n) (a ∷ p) h = strike_cost m n p (λ i. h (suc i))

-- a step that is kept is one of the list
pub kept_inside : (m : Reduction) (i : ℕ) → keeps m i → i < length m
kept_inside m i k = by_case (ltb i (length m)) refl
  where
    by_case : (b : Bool) → ltb i (length m) ≡ b → i < length m
    by_case true e = ltb-true i (length m) e
    by_case false e = absurd (false≢true (sym (get_or-eq_default m false (ltb-false i (length m) e)) ∙ k))

-- so every reduction is one of that which strikes none
pub contains_whole : {A : Type 0} (m : Reduction) (p : List A) → length m ≡ length p → Contains (whole p) m
contains_whole m p fits i k = get_or-replicate (length p) i true false (omega (arith, kept_inside m i k))

-- so no list left is longer than the lodged one
pub left_length : {A : Type 0} (m : Reduction) (p : List A) → length m ≡ length p → length (kept m p) ≤ length p
left_length m p fits = omega (arith, kept_length m p fits, strike_count (whole p) m (contains_whole m p fits), count_whole p)

-- and none costs more
pub left_cost : (m : Reduction) (p : List Action) → length m ≡ length p → cost (kept m p) ≤ cost p
left_cost m p fits = rw kept_whole at (strike_cost (whole p) m p (contains_whole m p fits))

-- where a reduction keeps all that another does, it does so from an index on
pub contains_behind : (m n : Reduction) (i : ℕ) → Contains m n → Contains (drop i m) (drop i n)
contains_behind m n i h k up = get_or-drop i m k false ∙ h (i + k) (sym (get_or-drop i n k false) ∙ up)

-- what two reductions have alike before an index, and from it on
pub alike_before : (m n : Reduction) (i k : ℕ) → take i m ≡ take i n → k < i → get_or m k false ≡ get_or n k false
alike_before m n i k same h = sym (get_or-take i m k false h) ∙ ap (λ r. get_or r k false) same ∙ get_or-take i n k false h

pub alike_behind : (m n : Reduction) (i k : ℕ) → drop i m ≡ drop i n → i ≤ k → get_or m k false ≡ get_or n k false
alike_behind m n i k same h =
    let here : i + (k - i) ≡ k = omega arith in
    rw here at (sym (get_or-drop i m (k - i) false) ∙ ap (λ r. get_or r (k - i) false) same ∙ get_or-drop i n (k - i) false)
