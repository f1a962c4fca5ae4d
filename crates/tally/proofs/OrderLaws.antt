-- The order that `Tally` derives, by the cost and then by the steps, is that of `comparison`. Assumes nothing.
use Rattle.std.proofs.Common.{◌≡◌, ℕ, Bool, true, false, cond, refl, ◌∙◌, ◌<◌, arith}
use Rattle.std.proofs.Common.{Less, Equal, Greater}
use Rattle.std.specs.Ordering.{MatchOrdering, nat_cmp, ordering_then}
use Rattle.std.specs.Cmp.{nat_cmp_is}
use Rattle.std.specs.Prelude.{ltb}
use borrow.Author.Tests.{ltb-true, ltb-false}
use Rattle.tally.specs.declared.Tally.{Tally}
use Rattle.tally.specs.Tally.{comparison}

tested : (x y : ℕ) (a b : Bool) → ltb x y ≡ a → ltb y x ≡ b → MatchOrdering (cond a Less (cond b Greater Equal)) (x < y) (x ≡ y) (y < x)
tested x y true b h g = ltb-true x y h
tested x y false true h g = ltb-true y x g
tested x y false false h g = omega (arith, ltb-false x y h, ltb-false y x g)

by_tests : (x y : ℕ) → cond (ltb x y) Less (cond (ltb y x) Greater Equal) ≡ nat_cmp x y
by_tests x y = nat_cmp_is x y _ (tested x y (ltb x y) (ltb y x) refl refl)

one_then_other : (a b c d : Bool) → cond a Less (cond b Greater (cond c Less (cond d Greater Equal)))
    ≡ ordering_then (cond a Less (cond b Greater Equal)) (cond c Less (cond d Greater Equal))
one_then_other true b c d = refl
one_then_other false true c d = refl
one_then_other false false c d = refl

pub compared_in_turn : (a b : Tally) → comparison a b ≡ ordering_then (nat_cmp a.cost b.cost) (nat_cmp a.steps b.steps)
unfolding comparison
compared_in_turn a b =
    one_then_other (ltb a.cost b.cost) (ltb b.cost a.cost) (ltb a.steps b.steps) (ltb b.steps a.steps)
    ∙ rw (by_tests a.cost b.cost, by_tests a.steps b.steps)
