-- The flags of a plan's positions: `==` tells whether two lists of flags are the same, and what a copy of the steps' flags makes. Assumes nothing.
use Prim.Native.Nat.{ℕ, ◌+◌, ◌-◌}
use native.Mathlib.Omega.{arith}
use mathlib.Core.Path.{◌≡◌, refl, sym}
use mathlib.Core.Bool.{Bool, true, false, beq}
use mathlib.Core.List.{◌++◌}
use lib.ListN.{take, drop, replicate}
use lib.Pointwise.{pointwise}
use Rattle.std.specs.Bool.{Decides}
use Rattle.std.specs.Cmp.Lexicographic.{pointwise_decides}
use Rattle.std.proofs.lemmas.List.{drop-replicate}
use Rattle.reduction.specs.Reduction.{Reduction}
use Rattle.plan.specs.Limits.{most_steps}
use Rattle.landmark.specs.Between.Passes.{steps_held}

-- flags are the same where `==` says so
flag_decides : (x y : Bool) → Decides (beq x y) (x ≡ y)
flag_decides true true = (λ _. refl, λ _. refl)
flag_decides true false = (sym, sym)
flag_decides false true = (λ e. e, λ e. e)
flag_decides false false = (λ _. refl, λ _. refl)

pub same_flags : (a b : Reduction) → pointwise beq a b ≡ true → a ≡ b
same_flags a b = (pointwise_decides flag_decides a b).0

-- the flags of the steps, copied over as many that are down
pub steps_copied : (flags copy : Reduction) (n : ℕ) → copy ≡ take (n + 1 - 1) (drop 1 flags)
    → copy ++ drop n (replicate most_steps false) ≡ steps_held n flags
steps_copied flags copy n copied =
    let some : n + 1 - 1 ≡ n = omega arith in
    rw (copied, some, drop-replicate)
