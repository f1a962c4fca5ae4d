-- The same effects but for their order and that of facts: they have the same facts, and where those of one list have no condition, neither have those of
-- the other. Assumes nothing.
use Prim.Native.Nat.{◌+◌}
use native.Mathlib.Omega.{arith}
use mathlib.Core.Path.{◌≡◌, refl, sym, ◌∙◌, ap}
use mathlib.Core.Bool.{Bool, true, false, cond}
use mathlib.Core.List.Memᴰ
use mathlib.Core.List.{List, [], ◌∷◌, map}
use lib.ListN.{length}
use Rattle.sas.specs.Task.{Fact, Assignment, Effect, always}
use Rattle.sas.proofs.EffectLaws.{each_written}
use Rattle.meaning.specs.Between.Writable.{no_condition}
use Rattle.translation.specs.Translation.{alike, copies, SameFacts, conditions_of, SameConditions, SameEffects}
use Rattle.translation.specs.Translation.SameConditions.{no_effect, effect}
use Rattle.translation.proofs.CopyLaws.{alike_self, member_copies}

-- as many conditions as the fact has copies
conditions_many : (f : Fact) (es : List Effect) → length (conditions_of f es) ≡ copies f (map (λ e. e.fact) es)
unfolding conditions_of copies
conditions_many f [] = refl
conditions_many f (e ∷ es) = by_case (alike f e.fact) (conditions_many f es)
  where
    by_case : (b : Bool) → length (conditions_of f es) ≡ copies f (map (λ d. d.fact) es)
        → length (cond b (e.condition ∷ conditions_of f es) (conditions_of f es)) ≡ cond b 1 0 + copies f (map (λ d. d.fact) es)
    by_case true rest = omega arith
    by_case false rest = omega arith

same_many : {qs rs : List Assignment} → SameConditions qs rs → length qs ≡ length rs
same_many no_effect = refl
same_many (effect first rest) = let more = same_many rest in omega arith

-- so the facts are the same
pub same_written : (es ds : List Effect) → SameEffects es ds → SameFacts (map (λ e. e.fact) es) (map (λ e. e.fact) ds)
same_written es ds each f = sym (conditions_many f es) ∙ same_many (each f) ∙ conditions_many f ds

-- conditions without a fact
abbrev AllEmpty : List Assignment → Type 0
AllEmpty [] = Unit
AllEmpty (q ∷ qs) = (q ≡ []) × AllEmpty qs

always_empty : (f : Fact) (q : Assignment) → AllEmpty (conditions_of f (map always q))
unfolding conditions_of
always_empty f [] = tt
always_empty f (g ∷ q) = by_case (alike f g) (always_empty f q)
  where
    by_case : (b : Bool) → AllEmpty (conditions_of f (map always q)) → AllEmpty (cond b ([] ∷ conditions_of f (map always q)) (conditions_of f (map always q)))
    by_case true rest = (refl, rest)
    by_case false rest = rest

empty_same : (qs rs : List Assignment) → AllEmpty qs → AllEmpty rs → length qs ≡ length rs → SameConditions qs rs
empty_same [] [] all also many = no_effect
empty_same [] (r ∷ rs) all also many = absurd (omega arith)
empty_same (q ∷ qs) [] all also many = absurd (omega arith)
empty_same (q ∷ qs) (r ∷ rs) (none, all) (nothing, also) many =
    effect (λ f. ap (copies f) (none ∙ sym nothing)) (empty_same qs rs all also (omega arith))

-- so facts in another order are the same effects
pub always_same : (q r : Assignment) → SameFacts q r → SameEffects (map always q) (map always r)
always_same q r each f =
    empty_same (conditions_of f (map always q)) (conditions_of f (map always r)) (always_empty f q) (always_empty f r)
    (conditions_many f (map always q) ∙ ap (copies f) (each_written q) ∙ each f ∙ ap (copies f) (sym (each_written r)) ∙ sym (conditions_many f (map always r)))

no_facts : (q : Assignment) → SameFacts q [] → q ≡ []
unfolding copies
no_facts [] each = refl
no_facts (f ∷ q) each = absurd (omega (arith, each f, member_copies f (f ∷ q) (Memᴰ.head refl)))

same_empty : {qs rs : List Assignment} → SameConditions qs rs → AllEmpty rs → AllEmpty qs
same_empty no_effect all = tt
same_empty (effect {q = q} first rest) (none, all) = (no_facts q (λ f. first f ∙ ap (copies f) none), same_empty rest all)

-- and what is the same as effects without conditions has none
empty_all : (es : List Effect) → ((f : Fact) → AllEmpty (conditions_of f es)) → no_condition es ≡ true
unfolding conditions_of no_condition
empty_all [] each = refl
empty_all (e ∷ es) each = first e.condition refl (empty_all es others)
  where
    here : AllEmpty (conditions_of e.fact (e ∷ es))
    here = each e.fact

    others : (f : Fact) → AllEmpty (conditions_of f es)
    others f = by_case (alike f e.fact) (each f)
      where
        by_case : (b : Bool) → AllEmpty (cond b (e.condition ∷ conditions_of f es) (conditions_of f es)) → AllEmpty (conditions_of f es)
        by_case true all = all.1
        by_case false all = all

    none_here : e.condition ≡ []
    none_here = (rw (alike_self e.fact) at here).0

    first : (q : Assignment) → e.condition ≡ q → no_condition es ≡ true → no_condition (e ∷ es) ≡ true
    first [] is rest = rw (is, no_condition) rest
    first (g ∷ q) is rest = absurd (omega (arith, ap length (sym none_here ∙ is)))

pub same_always : (es : List Effect) (r : Assignment) → SameEffects es (map always r) → no_condition es ≡ true
same_always es r each = empty_all es (λ f. same_empty (each f) (always_empty f r))
