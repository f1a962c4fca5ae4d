-- The numbers kept of a text that a sheet can say, as their places tell them: facts, changes, actions, and the task, with
-- each number as it is read. Assumes nothing.
use Prim.Native.Nat.{ℕ, suc, ◌+◌, min}
use native.Mathlib.Omega.{arith}
use mathlib.Core.Path.{◌≡◌, refl, sym, ◌∙◌, ap}
use mathlib.Core.Bool.{false, false≢true}
use mathlib.Core.Option.{Option, none, some}
use mathlib.Core.List.{List, [], ◌∷◌, ◌++◌, map, flatten, append_assoc}
use lib.ListN.{length, get_or, drop}
use lib.Seq.{drop-drop, drop-append_seam, get_or-drop}
use lib.Dec.{eqb, ltb}
use borrow.Author.Tests.{ne_eqb, lt-ltb}
use Rattle.sas.specs.Task.{Fact, Assignment}
use Rattle.fields.specs.Between.Numbers.{most_number, any_value}
use Rattle.meaning.specs.Between.Sections.{number_at, fact_at, facts_at, fact_wide, effect_wide}
use Rattle.planner.specs.Text.{Change, Effect}
use Rattle.planner.specs.Printed.{Line, effect_lines}
use Rattle.planner.specs.Meant.{old_fact, new_fact}
use Rattle.printed_form.specs.Between.Datum.{sat}
use Rattle.printed_form.proofs.BlockLaws.{fact_tape, effect_tape}

-- numbers that stand from a place on
module _ (x : List ℕ) where
  pub number_here : (i y : ℕ) (ys : List ℕ) → drop i x ≡ y ∷ ys → number_at x i ≡ y
  number_here i y ys e =
      let same : i + 0 ≡ i = omega arith in
      ap (λ k. get_or x k 0) (sym same) ∙ sym (get_or-drop i x 0 0) ∙ ap (λ l. get_or l 0 0) e

  pub behind : (i : ℕ) (ys zs : List ℕ) → drop i x ≡ ys ++ zs → drop (i + length ys) x ≡ zs
  behind i ys zs e = sym (drop-drop (length ys) i x) ∙ ap (drop (length ys)) e ∙ drop-append_seam ys zs

  pub behind_one : (i y : ℕ) (ys : List ℕ) → drop i x ≡ y ∷ ys → drop (i + 1) x ≡ ys
  behind_one i y ys e = behind i (y ∷ []) ys e

-- a fact as it is read
abbrev pub sat_fact : Fact → Fact
sat_fact f = record { variable = sat (some f.variable); value = sat (some f.value) }

told_value : (n : ℕ) → eqb (sat (some n)) any_value ≡ false
told_value n = ne_eqb (min most_number n) any_value (λ e. omega arith)

module _ (x : List ℕ) where
  fact_told : (i j v n : ℕ) → number_at x i ≡ sat (some v) → number_at x j ≡ sat (some n)
      → fact_at x i j ≡ record { variable = sat (some v); value = sat (some n) } ∷ []
  unfolding fact_at
  fact_told i j v n is also = rw (is, also, told_value n)

  fact_any : (i j : ℕ) → number_at x j ≡ any_value → fact_at x i j ≡ []
  unfolding fact_at
  fact_any i j is = rw is

  pub facts_told : (fs : Assignment) (i : ℕ) (rest : List ℕ) → drop i x ≡ flatten (map fact_tape fs) ++ rest → facts_at x fact_wide 1 i (length fs) ≡ map sat_fact fs
  unfolding facts_at flatten
  facts_told [] i rest e = refl
  facts_told (f ∷ fs) i rest e =
      let here : number_at x i ≡ sat (some f.variable) = number_here x i _ _ e in
      let next : drop (i + 1) x ≡ sat (some f.value) ∷ (flatten (map fact_tape fs) ++ rest) = behind_one x i _ _ e in
      let value : number_at x (i + 1) ≡ sat (some f.value) = number_here x (i + 1) _ _ next in
      let later : drop (i + fact_wide) x ≡ flatten (map fact_tape fs) ++ rest = behind x i (fact_tape f) _ e in
      ap (λ gs. gs ++ facts_at x fact_wide 1 (i + fact_wide) (length fs)) (fact_told i (i + 1) f.variable f.value here value)
      ∙ ap (λ gs. sat_fact f ∷ gs) (facts_told fs (i + fact_wide) rest later)

-- the old and the new value of a change, as they are read
abbrev pub sat_old : Option ℕ → Option ℕ
sat_old none = none
sat_old (some n) = some (sat (some n))

abbrev pub sat_change : Change → Change
sat_change c = record { variable = sat (some c.variable); old = sat_old c.old; new = sat (some c.new) }

-- lines that a sheet can say
abbrev pub AllSayable : List Line → Type 0
AllSayable [] = Unit
AllSayable (l ∷ ls) = (l.barred ≡ false) × AllSayable ls

pub sayable_parts : (ls ms : List Line) → AllSayable (ls ++ ms) → AllSayable ls × AllSayable ms
sayable_parts [] ms all = (tt, all)
sayable_parts (l ∷ ls) ms (here, there) = let (first, second) = sayable_parts ls ms there in ((here, first), second)

-- so an effect has no condition
pub unconditional : (cs : Assignment) → ltb 0 (length cs) ≡ false → cs ≡ []
unconditional [] e = refl
unconditional (f ∷ cs) e = absurd (false≢true (sym e ∙ lt-ltb 0 (suc (length cs)) (omega arith)))

abbrev pub plain_tape : Change → List ℕ
plain_tape c = sat (some 0) ∷ sat (some c.variable) ∷ sat c.old ∷ sat (some c.new) ∷ []

pub plain_effect : (e : Effect) → ltb 0 (length e.conditions) ≡ false → effect_tape e ≡ plain_tape e.change
unfolding flatten
plain_effect e says = ap (λ cs. effect_tape (record { conditions = cs; change = e.change })) (unconditional e.conditions says)

module _ (x : List ℕ) where
  old_told : (i j v : ℕ) (o : Option ℕ) → number_at x i ≡ sat (some v) → number_at x j ≡ sat o
      → fact_at x i j ≡ old_fact (sat_change (record { variable = v; old = o; new = 0 }))
  old_told i j v none is also = fact_any x i j also
  old_told i j v (some n) is also = fact_told x i j v n is also

  -- the numbers of an effect, where those of effects begin at place i
  record EffectHere (c : Change) (i : ℕ) (rest : List ℕ) : Type 0 where
    pub variable : number_at x (i + 1) ≡ sat (some c.variable)
    pub old : number_at x (i + 1 + 1) ≡ sat c.old
    pub new : number_at x (i + 1 + 2) ≡ sat (some c.new)
    pub later : drop (i + effect_wide) x ≡ rest

  effect_here : (e : Effect) (i : ℕ) (rest : List ℕ) → ltb 0 (length e.conditions) ≡ false → drop i x ≡ effect_tape e ++ rest
      → EffectHere e.change i rest
  effect_here e i rest says is =
      let c : Change = e.change in
      let all : drop i x ≡ plain_tape c ++ rest = is ∙ ap (λ t. t ++ rest) (plain_effect e says) in
      let first : drop (i + 1) x ≡ sat (some c.variable) ∷ sat c.old ∷ sat (some c.new) ∷ rest = behind_one x i _ _ all in
      let second : drop (i + 1 + 1) x ≡ sat c.old ∷ sat (some c.new) ∷ rest = behind_one x (i + 1) _ _ first in
      let third : drop (i + 1 + 2) x ≡ sat (some c.new) ∷ rest = behind x (i + 1) (sat (some c.variable) ∷ sat c.old ∷ []) _ first in
      record {
        variable = number_here x (i + 1) _ _ first;
        old = number_here x (i + 1 + 1) _ _ second;
        new = number_here x (i + 1 + 2) _ _ third;
        later = behind x i (plain_tape c) rest all;
      }

  pub olds_told : (es : List Effect) (i : ℕ) (rest : List ℕ) → AllSayable (flatten (map effect_lines es)) → drop i x ≡ flatten (map effect_tape es) ++ rest
      → facts_at x effect_wide 1 (i + 1) (length es) ≡ flatten (map (λ e. old_fact (sat_change e.change)) es)
  unfolding facts_at flatten
  olds_told [] i rest all is = refl
  olds_told (e ∷ es) i rest (says, others) is =
      let here : EffectHere e.change i (flatten (map effect_tape es) ++ rest) =
      effect_here e i (flatten (map effect_tape es) ++ rest) says (is ∙ append_assoc (effect_tape e) (flatten (map effect_tape es)) rest) in
      let place : i + 1 + effect_wide ≡ i + effect_wide + 1 = omega arith in
      ap (λ gs. gs ++ facts_at x effect_wide 1 (i + 1 + effect_wide) (length es))
      (old_told (i + 1) (i + 1 + 1) e.change.variable e.change.old here.variable here.old)
      ∙ ap (λ k. old_fact (sat_change e.change) ++ facts_at x effect_wide 1 k (length es)) place
      ∙ ap (λ gs. old_fact (sat_change e.change) ++ gs) (olds_told es (i + effect_wide) rest others here.later)

  pub news_told : (es : List Effect) (i : ℕ) (rest : List ℕ) → AllSayable (flatten (map effect_lines es)) → drop i x ≡ flatten (map effect_tape es) ++ rest
      → facts_at x effect_wide 2 (i + 1) (length es) ≡ map (λ e. new_fact (sat_change e.change)) es
  unfolding facts_at flatten
  news_told [] i rest all is = refl
  news_told (e ∷ es) i rest (says, others) is =
      let here : EffectHere e.change i (flatten (map effect_tape es) ++ rest) =
      effect_here e i (flatten (map effect_tape es) ++ rest) says (is ∙ append_assoc (effect_tape e) (flatten (map effect_tape es)) rest) in
      let place : i + 1 + effect_wide ≡ i + effect_wide + 1 = omega arith in
      ap (λ gs. gs ++ facts_at x effect_wide 2 (i + 1 + effect_wide) (length es))
      (fact_told x (i + 1) (i + 1 + 2) e.change.variable e.change.new here.variable here.new)
      ∙ ap (λ k. new_fact (sat_change e.change) ∷ facts_at x effect_wide 2 k (length es)) place
      ∙ ap (λ gs. new_fact (sat_change e.change) ∷ gs) (news_told es (i + effect_wide) rest others here.later)
