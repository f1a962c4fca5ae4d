-- One step more by cases, and that a tally of few cheap steps never meets its bounds: it is the plain sum of the costs and their number.
-- By induction on the costs. Assumes nothing.
use Prim.Native.Nat.{ℕ, ◌+◌, ◌*◌, ◌≤◌, ◌<◌}
use native.Mathlib.Nat.{suc-mul, le_trans, mul-le-mul_right}
use native.Mathlib.Omega.{arith}
use mathlib.Core.Path.{◌≡◌, refl, ◌∙◌}
use mathlib.Core.Bool.{and-false}
use mathlib.Core.List.{List, [], ◌∷◌, Memᴰ}
use lib.ListN.{length}
use borrow.Author.Tests.{lt-ltb, le-ltb, le-leb, lt-leb}
use Rattle.tally.specs.declared.Tally.{Tally}
use Rattle.tally.specs.Tally.{bounds, nothing, one_more, after}

pub full_of_steps : (t : Tally) (c : ℕ) → bounds.steps ≤ t.steps → one_more t c ≡ t
unfolding one_more
full_of_steps t c h = rw (le-ltb t.steps bounds.steps h)

pub full_of_cost : (t : Tally) (c : ℕ) → bounds.cost < t.cost + c → one_more t c ≡ t
unfolding one_more
full_of_cost t c h = rw (lt-leb (t.cost + c) bounds.cost h, and-false)

pub counted : (t : Tally) (c : ℕ) → t.steps < bounds.steps → t.cost + c ≤ bounds.cost → one_more t c ≡ record { cost = t.cost + c; steps = t.steps + 1 }
unfolding one_more
counted t c h k = rw (lt-ltb t.steps bounds.steps h, le-leb (t.cost + c) bounds.cost k)

-- the plain sum
unfoldable pub total : List ℕ → ℕ
total [] = 0
total (c ∷ costs) = c + total costs

-- what each cost, at most `most`, adds
pub total_bound : (most : ℕ) (costs : List ℕ) → ((c : ℕ) → Memᴰ c costs → c ≤ most) → total costs ≤ length costs * most
unfolding total
total_bound most [] each = omega arith
total_bound most (c ∷ costs) each =
    let here : c ≤ most = each c (Memᴰ.head refl) in
    let rest : total costs ≤ length costs * most = total_bound most costs (λ d m. each d (Memᴰ.tail m)) in
    rw suc-mul (omega arith)

-- a tally is its cost and its steps
pub same_tally : (a b : Tally) → a.cost ≡ b.cost → a.steps ≡ b.steps → a ≡ b
same_tally a b p q = λ i. record { cost = p i; steps = q i }

counts : (t : Tally) (costs : List ℕ) → t.steps + length costs ≤ bounds.steps → t.cost + total costs ≤ bounds.cost
    → after t costs ≡ record { cost = t.cost + total costs; steps = t.steps + length costs }
unfolding after total
counts t [] h k = same_tally _ _ (omega arith) (omega arith)
counts t (c ∷ costs) h k =
    let here : one_more t c ≡ record { cost = t.cost + c; steps = t.steps + 1 } = counted t c (omega arith) (omega arith) in
    rw here (counts (record { cost = t.cost + c; steps = t.steps + 1 }) costs (omega arith) (omega arith) ∙ same_tally _ _ (omega arith) (omega arith))

-- a tally of costs that are few enough, each at most `most`, is their plain sum and their number
pub plain_tally : (most : ℕ) (costs : List ℕ) → ((c : ℕ) → Memᴰ c costs → c ≤ most) → bounds.steps * most ≤ bounds.cost → length costs ≤ bounds.steps
    → after nothing costs ≡ record { cost = total costs; steps = length costs }
plain_tally most costs each fits few =
    let sum : total costs ≤ bounds.cost = le_trans (total_bound most costs each) (le_trans (mul-le-mul_right most few) fits) in
    counts nothing costs (omega arith) (omega arith) ∙ same_tally _ _ (omega arith) (omega arith)
