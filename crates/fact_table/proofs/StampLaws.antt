-- A table stamped with facts: by the cases of a loop along them, and what stands at a fact afterwards, by list induction, since two facts with values below
-- the limit have one word only where they are the same. Assumes nothing.
use Prim.Native.Nat.{ℕ, ◌<◌}
use native.Mathlib.Omega.{arith}
use mathlib.Core.Path.{◌≡◌, refl, sym, ◌∙◌, ap}
use mathlib.Core.Bool.{Bool, true, false, cond, true≢false}
use mathlib.Core.List.{List, [], ◌∷◌, Memᴰ}
use lib.ListN.{length, get_or, set, length-set}
use lib.Seq.{get_or-set_same, get_or-set_other}
use Rattle.sas.specs.Task.{Fact, Assignment}
use Rattle.reduction.specs.Between.Wanted.{same_fact, has}
use Rattle.sas.specs.Conflict.{some_of}
use Rattle.reduction.proofs.MemberLaws.{same_fact_true, same_fact_refl}
use Rattle.sheet.specs.Limits.{limits}
use Rattle.sheet.specs.Decode.{fact_of}
use Rattle.sheet.specs.Between.Encode.{fact_word}
use Rattle.sheet.proofs.FactWords.{word_of_fact}
use Rattle.fact_table.specs.Between.Tables.{stamped}

-- where no fact is left nothing is stamped
pub stamped_none : (t : List Bool) (q : Assignment) (x : Bool) → q ≡ [] → stamped t q x ≡ t
unfolding stamped
stamped_none t q x none = rw none

-- and the first of those that are left is stamped first
pub stamped_first : (t : List Bool) (q later : Assignment) (x : Bool) (y : ℕ) → q ≡ fact_of y ∷ later → stamped t q x ≡ stamped (set t y x) later x
unfolding stamped
stamped_first t q later x y first = rw first (ap (λ j. stamped (set t j x) later x) (word_of_fact y))

pub stamped_length : (t : List Bool) (q : Assignment) (x : Bool) → length (stamped t q x) ≡ length t
unfolding stamped
stamped_length t [] x = refl
stamped_length t (f ∷ q) x = stamped_length (set t (fact_word f) x) q x ∙ length-set t (fact_word f) x

-- a fact with a value below the limit, as the facts of a task have
abbrev pub Small : Fact → Type 0
Small f = f.value < limits.values

-- two such facts with one word are the same
same_word : (f g : Fact) → Small f → Small g → fact_word f ≡ fact_word g → same_fact f g ≡ true
same_word f g small small' e =
    let variable : f.variable ≡ g.variable = omega arith in
    let value : f.value ≡ g.value = omega arith in
    let same : f ≡ g = λ i. record { variable = variable i; value = value i } in
    rw (← same) (same_fact_refl f)

-- what stands at a fact of a stamped table
pub stamped_at : (t : List Bool) (q : Assignment) (x : Bool) (f : Fact) → ((g : Fact) → Memᴰ g q → Small g) → Small f → fact_word f < length t
    → get_or (stamped t q x) (fact_word f) false ≡ cond (has q f) x (get_or t (fact_word f) false)
unfolding stamped has some_of
stamped_at t [] x f smalls small room = refl
stamped_at t (g ∷ q) x f smalls small room =
    stamped_at (set t (fact_word g) x) q x f (λ h m. smalls h (Memᴰ.tail m)) small (rw length-set room) ∙ by_case (same_fact f g) refl
  where
    one : (b : Bool) → cond b x x ≡ x
    one true = refl
    one false = refl

    by_case : (b : Bool) → same_fact f g ≡ b → cond (has q f) x (get_or (set t (fact_word g) x) (fact_word f) false) ≡ cond (has (g ∷ q) f) x (get_or t (fact_word f) false)
    by_case true e = rw (e, ← same_fact_true f g e, get_or-set_same t (fact_word f) x false room) (one (has q f))
    by_case false e =
        rw (e, get_or-set_other t (fact_word g) (fact_word f) x false (λ same. true≢false (sym (same_word f g small (smalls g (Memᴰ.head refl)) same) ∙ e)))
