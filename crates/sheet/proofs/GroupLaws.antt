-- A group's facts by the cases of a loop along it, from its first fact or from its last: none is left, or one more is; and whose facts those of the goal and
-- of an action's precondition are. By the laws of the facts among words. Assumes nothing.
use Prim.Native.Nat.{ℕ, ◌+◌, ◌-◌, ◌≤◌, ◌<◌}
use native.Mathlib.Omega.{arith}
use mathlib.Core.Path.{◌≡◌, refl, sym, ◌∙◌, ap}
use mathlib.Core.Bool.{true}
use mathlib.Core.List.{List, [], ◌∷◌, ◌++◌}
use lib.ListN.{length}
use lib.Dec.{leb}
use borrow.Author.Tests.{lt-ltb, le-ltb, leb-true, le-leb}
use Rattle.sas.specs.Plan.{needed}
use Rattle.sheet.specs.declared.group.Group.{Group}
use Rattle.sheet.specs.Layout.{word}
use Rattle.sheet.specs.Decode.{fact_of, goal, action}
use Rattle.sheet.specs.Between.Group.{goal_group, needed_group, facts_in, first_fact, rest_of, last_fact, front_of}
use Rattle.sheet.proofs.TableLaws.{facts_length, facts_over, facts_next, facts_last}

module _ (g : Group) where
  -- what is left of a group that has a fact
  pub rest_of_some : g.at < g.end → rest_of g ≡ record { at = g.at + 1; end = g.end }
  unfolding rest_of
  rest_of_some h = rw (lt-ltb g.at g.end h)

  -- and of one that has none
  pub rest_of_none : g.end ≤ g.at → rest_of g ≡ g
  unfolding rest_of
  rest_of_none h = rw (le-ltb g.at g.end h)

  -- it has fewer words
  pub rest_shorter : (r : Group) → r ≡ rest_of g → g.at < g.end → r.end - r.at < g.end - g.at
  rest_shorter r e h = rw (e, rest_of_some h) (omega arith)

  -- the same from the last fact
  pub front_of_some : g.at < g.end → front_of g ≡ record { at = g.at; end = g.end - 1 }
  unfolding front_of
  front_of_some h = rw (lt-ltb g.at g.end h)

  pub front_of_none : g.end ≤ g.at → front_of g ≡ g
  unfolding front_of
  front_of_none h = rw (le-ltb g.at g.end h)

  pub front_shorter : (r : Group) → r ≡ front_of g → g.at < g.end → r.end - r.at < g.end - g.at
  front_shorter r e h = rw (e, front_of_some h) (omega arith)

module _ (w : List ℕ) (g : Group) where
  pub group_over : g.end ≤ g.at → facts_in w g ≡ []
  unfolding facts_in
  group_over h = facts_over w g.at g.end h

  pub group_next : g.at < g.end → facts_in w g ≡ fact_of (first_fact w g) ∷ facts_in w (rest_of g)
  unfolding facts_in
  group_next h = rw (rest_of_some g h) (facts_next w g.at g.end h)

  -- a walk along it: the next fact, and the facts that are left, which are fewer
  pub group_first : g.at < g.end → facts_in w g ≡ fact_of (word w g.at) ∷ facts_in w (record { at = g.at + 1; end = g.end })
  unfolding facts_in
  group_first h = facts_next w g.at g.end h

  pub group_final : g.at < g.end → facts_in w g ≡ facts_in w (record { at = g.at; end = g.end - 1 }) ++ (fact_of (word w (g.end - 1)) ∷ [])
  unfolding facts_in
  group_final h = facts_last w g.at g.end h

  pub fewer_first : g.at < g.end → length (facts_in w (record { at = g.at + 1; end = g.end })) < length (facts_in w g)
  unfolding facts_in
  fewer_first h = rw (facts_length w g.at g.end, facts_length w (g.at + 1) g.end) (omega arith)

  pub fewer_final : g.at < g.end → length (facts_in w (record { at = g.at; end = g.end - 1 })) < length (facts_in w g)
  unfolding facts_in
  fewer_final h = rw (facts_length w g.at g.end, facts_length w g.at (g.end - 1)) (omega arith)

  pub group_empty : (leb g.end g.at ≡ true → facts_in w g ≡ []) × (facts_in w g ≡ [] → leb g.end g.at ≡ true)
  unfolding facts_in
  group_empty = (λ past. group_over (leb-true _ _ past), λ none. le-leb g.end g.at (omega (arith, sym (facts_length w g.at g.end) ∙ ap length none)))

  -- the word of the last fact of a group that has one, and of one that has none
  pub last_fact_some : g.at < g.end → last_fact w g ≡ word w (g.end - 1)
  unfolding last_fact
  last_fact_some h = rw (lt-ltb g.at g.end h)

  pub last_fact_none : g.end ≤ g.at → last_fact w g ≡ 0
  unfolding last_fact
  last_fact_none h = rw (le-ltb g.at g.end h)

  pub group_last : g.at < g.end → facts_in w g ≡ facts_in w (front_of g) ++ (fact_of (last_fact w g) ∷ [])
  unfolding facts_in
  group_last h = rw (front_of_some g h, last_fact_some h) (facts_last w g.at g.end h)

module _ (w : List ℕ) where
  pub goal_facts : facts_in w (goal_group w) ≡ goal w
  unfolding facts_in goal
  goal_facts = refl

  pub needed_facts : (a : ℕ) → facts_in w (needed_group w a) ≡ needed (action w a)
  unfolding facts_in needed action
  needed_facts a = refl
