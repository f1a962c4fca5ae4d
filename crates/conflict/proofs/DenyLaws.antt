-- A fact that a table denies, by what the table says; and some facts against a table, by the cases of a loop along them. Assumes nothing.
use Prim.Native.Nat.{ℕ}
use mathlib.Core.Path.{◌≡◌, refl}
use mathlib.Core.Bool.{Bool, true, false, not}
use mathlib.Core.List.{List, [], ◌∷◌}
use lib.ListN.{get_or}
use lib.Dec.{eqb}
use borrow.Author.Tests.{eq-eqb, ne_eqb}
use Rattle.std.specs.List.{list_any}
use Rattle.sas.specs.Task.{Assignment, State}
use Rattle.sas.specs.Conflict.{some_of}
use Rattle.sheet.specs.Decode.{fact_of}
use Rattle.conflict.specs.Between.Table.{unsaid, denies}

module _ (t : State) (x said : ℕ) (read : said ≡ get_or t (fact_of x).variable 0) where
  pub nothing_said : said ≡ unsaid → not (eqb said unsaid) ≡ denies t (fact_of x)
  unfolding denies
  nothing_said same = rw (← read, eq-eqb said unsaid same)

  pub something_said : (said ≡ unsaid → ⊥) → not (eqb said (fact_of x).value) ≡ denies t (fact_of x)
  unfolding denies
  something_said some = rw (← read, ne_eqb said unsaid some)

-- of some facts: none is left, or the first denies or does not
module _ (t : State) (q : Assignment) where
  pub denied_over : q ≡ [] → some_of (denies t) q ≡ false
  unfolding some_of
  denied_over over = rw over

  module _ (x : ℕ) (later : Assignment) (first : q ≡ fact_of x ∷ later) (b : Bool) (tested : b ≡ denies t (fact_of x)) where
    pub denied_here : b ≡ true → some_of (denies t) q ≡ true
    unfolding some_of
    denied_here denied = rw (first, ← tested, denied)

    pub denied_later : b ≡ false → some_of (denies t) q ≡ some_of (denies t) later
    unfolding some_of
    denied_later passed = rw (first, ← tested, passed)

-- which is what the library says of `any`
pub some_of_any : {A : Type 0} (test : A → Bool) (xs : List A) → some_of test xs ≡ list_any test xs
unfolding some_of
some_of_any test [] = refl
some_of_any test (x ∷ xs) = rw (some_of_any test xs)
