-- The flags of a plan of which nothing is struck, raised one by one, and flags that hold a reduction. Assumes nothing.
use Prim.Native.Nat.{ℕ, suc, ◌+◌, ◌-◌, ◌≤◌, ◌<◌, min}
use native.Mathlib.Omega.{arith}
use mathlib.Core.Path.{◌≡◌, sym, ◌∙◌, ap}
use mathlib.Core.Bool.{Bool, true, false}
use mathlib.Core.List.{List, [], ◌∷◌, ◌++◌, append_assoc}
use lib.ListN.{length, set, replicate, length-replicate, length-append, length-map, replicate-append-replicate}
use lib.Seq.{set_at, take_at}
use Rattle.sheet.specs.Decode.{action}
use Rattle.plan.specs.Valid.{steps}
use Rattle.plan.specs.Limits.{most_steps}
use Rattle.reduction.specs.Reduction.{Reduction, whole}
use Rattle.reduced.specs.Between.Held.{mask, flags_of, none_struck, Leaves}

-- of `most` flags the first i are up
abbrev pub raised : ℕ → ℕ → List Bool
raised most i = replicate i true ++ replicate (most - i) false

pub raised_more : (most i : ℕ) → i < most → set (raised most i) i true ≡ raised most (i + 1)
raised_more most i h =
    let fewer : most - i ≡ suc (most - (i + 1)) = omega arith in
    rw (fewer, set_at (replicate i true) false (replicate (most - (i + 1)) false) true i (length-replicate i true), ← replicate-append-replicate i 1 true)
    (sym (append_assoc (replicate i true) (true ∷ []) (replicate (most - (i + 1)) false)))

-- all flags that there are for n steps
pub all_raised : (n : ℕ) → raised most_steps (min n most_steps) ≡ none_struck n
all_raised n = let left : most_steps - min n most_steps ≡ most_steps - n = omega arith in rw left

-- of a list within the limit they hold the whole of it
pub all_held : (l : List ℕ) (flags : Reduction) → length l ≤ most_steps → flags ≡ none_struck (length l) → flags ≡ flags_of l (whole l)
all_held l flags few is = let all : min (length l) most_steps ≡ length l = omega arith in is ∙ rw all

-- the flags that hold a reduction of the steps
pub leaves : (w l : List ℕ) (m left flags : Reduction) → length left ≡ length (steps w l) → left ≡ m → flags ≡ flags_of l left → Leaves l m flags
leaves w l m left flags fits same is =
    let as_long : length left ≡ length l = fits ∙ length-map l (action w) in
    let front : mask l flags ≡ left = rw is (take_at left _ (length l) as_long) in
    record { within = rw is (simp length-append (omega (arith, as_long))); fits = ap length front ∙ as_long; same = front ∙ same }
