-- A task that passes the test has a sheet, with each group of facts in order, and a task that has a sheet passes the test;
-- there is no other sheet of it. Assumes nothing.
use Prim.Native.Nat.{ℕ, suc, ◌≤◌, ◌<◌}
use native.Mathlib.Omega.{arith}
use mathlib.Core.Path.{◌≡◌, refl, sym, ◌∙◌, ap, subst}
use mathlib.Core.Bool.{true}
use mathlib.Core.List.{List, [], ◌∷◌, map, Memᴰ}
use lib.ListN.{length, get_or, length-map}
use borrow.Author.Tests.{lt-ltb, le-leb}
use Rattle.sas.specs.Task.{State, always, Action, Task}
use Rattle.sas.specs.Plan.{written}
use Rattle.sas.specs.Between.WellFormed.{Rising, ActionFormed, Plain, WellFormed}
use Rattle.sheet.specs.Limits.{limits}
use Rattle.sheet.specs.Decode.{task}
use Rattle.sheet.specs.Causes.{Accepted}
use Rattle.sheet.specs.Layout.{first_edition}
use Rattle.sheet.specs.Between.Encode.{encode, Encodable}
use Rattle.sheet.proofs.EncodeTheorem.{encode_decodes, encode_accepted, edition_read, decode_encodes, accepted_encodable}
use Rattle.meaning.specs.Between.Order.{in_order, ordered_action, ordered}
use Rattle.meaning.specs.Between.Writable.{group_fits, variables_fit, no_condition, action_fits, actions_fit, writable}
use Rattle.meaning.proofs.OrderTheorem.{actions_each_fit, writable_fits, writable_encodable}
use Rattle.translation.specs.Translation.{SameFacts, SameEffects, SameActions, SameTask}
use Rattle.translation.specs.Translation.SameActions.{no_action, action}
use Rattle.translation.proofs.CopyLaws.{in_order_facts, group_same, in_order_is}
use Rattle.translation.proofs.EffectOrderLaws.{same_written, always_same, same_always}

-- a task and the same with its groups in order
same_actions : (p : List Action) → ((a : Action) → Memᴰ a p → a.effects ≡ map always (written a)) → SameActions p (map ordered_action p)
unfolding ordered_action
same_actions [] plain = no_action
same_actions (a ∷ p) plain =
    action (in_order_facts a.precondition)
    (subst (λ es. SameEffects es (map always (in_order (written a)))) (sym (plain a (mathlib.Core.List.Memᴰ.head refl))) (always_same (written a) (in_order (written a)) (in_order_facts (written a))))
    refl (same_actions p (λ b m. plain b (mathlib.Core.List.Memᴰ.tail m)))

same_ordered : (T : Task) → writable T ≡ true → SameTask T (ordered T)
unfolding ordered
same_ordered T can =
    record {
      domains = refl;
      initial = refl;
      goal = in_order_facts T.goal;
      actions = same_actions T.actions (λ a m. (actions_each_fit T.domains T.actions (writable_fits T can).each_action m).without_condition);
    }

-- a task that passes the test has a sheet
module _ (T : Task) (complete : length T.initial ≡ length T.domains) (can : writable T ≡ true) where
  pub has_sheet : Accepted (encode first_edition (ordered T))
  has_sheet = encode_accepted (ordered T) (writable_encodable T complete can) refl

  pub sheet_means : SameTask T (task (encode first_edition (ordered T)))
  sheet_means = subst (SameTask T) (sym (encode_decodes (ordered T) (writable_encodable T complete can))) (same_ordered T can)

-- of a task that can be written, and the same but for the order of facts: each group in order is the written one
variables_pass : (rs : List ℕ) (s : State) → length s ≡ length rs → ((v : ℕ) → v < length rs → get_or rs v 0 ≤ limits.values)
    → ((v : ℕ) → v < length rs → get_or s v 0 < get_or rs v 0) → variables_fit rs s ≡ true
unfolding variables_fit
variables_pass [] s same low below = refl
variables_pass (r ∷ rs) [] same low below = absurd (omega arith)
variables_pass (r ∷ rs) (v ∷ s) same low below =
    rw (le-leb r limits.values (low 0 (omega arith)), lt-ltb v r (below 0 (omega arith)))
    (variables_pass rs s (omega arith) (λ k inside. low (suc k) (omega arith)) (λ k inside. below (suc k) (omega arith)))

actions_pass : (rs : List ℕ) {p q : List Action} → SameActions p q → ((b : Action) → Memᴰ b q → ActionFormed rs b)
    → ((b : Action) → Memᴰ b q → Plain rs b) → ((b : Action) → Memᴰ b q → b.cost ≤ limits.cost)
    → (actions_fit rs p ≡ true) × (map ordered_action p ≡ q)
unfolding actions_fit action_fits ordered_action written
actions_pass rs no_action formed plain cheap = (refl, refl)
actions_pass rs (action {a} {b} {p} {q} pre eff same rest) formed plain cheap =
    let here : Memᴰ b (b ∷ q) = mathlib.Core.List.Memᴰ.head refl in
    let (fit, are) = actions_pass rs rest (λ c m. formed c (mathlib.Core.List.Memᴰ.tail m)) (λ c m. plain c (mathlib.Core.List.Memᴰ.tail m)) (λ c m. cheap c (mathlib.Core.List.Memᴰ.tail m)) in
    let low : a.cost ≤ limits.cost = omega (arith, cheap b here) in
    let first : group_fits rs a.precondition ≡ true = group_same rs b.precondition (formed b here).precondition a.precondition pre in
    let none : no_condition a.effects ≡ true = same_always a.effects (written b) (subst (SameEffects a.effects) (plain b here).without_condition eff) in
    let facts : SameFacts (written a) (written b) = same_written a.effects b.effects eff in
    let second : group_fits rs (written a) ≡ true = group_same rs (written b) (plain b here).rising (written a) facts in
    let effects : map always (in_order (written a)) ≡ b.effects =
    ap (map always) (in_order_is rs (written a) (written b) (plain b here).rising facts) ∙ sym (plain b here).without_condition in (
      rw (none, first, second, le-leb a.cost limits.cost low) fit,
      ap (λ c. c ∷ map ordered_action p)
          (ap (λ ps. record { precondition = ps; effects = map always (in_order (written a)); cost = a.cost }) (in_order_is rs a.precondition b.precondition (formed b here).precondition pre)
          ∙ ap (λ es. record { precondition = b.precondition; effects = es; cost = a.cost }) effects
          ∙ ap (λ c. record { precondition = b.precondition; effects = b.effects; cost = c }) same)
          ∙ ap (λ r. b ∷ r) are,
    )

-- a task that has a sheet passes the test, and has no other sheet
module _ (T : Task) (w : List ℕ) (accepted : Accepted w) (means : SameTask T (task w)) where
  encodes : Encodable first_edition (task w)
  encodes = subst (λ e. Encodable e (task w)) (edition_read w accepted) (accepted_encodable w accepted)

  encoded : encode first_edition (task w) ≡ w
  encoded = ap (λ e. encode e (task w)) (sym (edition_read w accepted)) ∙ decode_encodes w accepted

  abbrev formed : WellFormed (task w)
  formed = encodes.well_formed

  in_domains : (P : List ℕ → Type 0) → P (task w).domains → P T.domains
  in_domains P holds = subst P (sym means.domains) holds

  rises : Rising T.domains 0 (task w).goal
  rises = in_domains (λ ds. Rising ds 0 (task w).goal) formed.goal

  acts : (actions_fit T.domains T.actions ≡ true) × (map ordered_action T.actions ≡ (task w).actions)
  acts =
      actions_pass T.domains means.actions (λ b m. in_domains (λ ds. ActionFormed ds b) (formed.actions b m))
      (λ b m. in_domains (λ ds. Plain ds b) (encodes.plain refl b m)) encodes.costs

  ordered_is : ordered T ≡ task w
  unfolding ordered
  ordered_is =
      ap (λ ds. record { domains = ds; actions = map ordered_action T.actions; initial = T.initial; goal = in_order T.goal }) means.domains
      ∙ ap (λ p. record { domains = (task w).domains; actions = p; initial = T.initial; goal = in_order T.goal }) acts.1
      ∙ ap (λ s. record { domains = (task w).domains; actions = (task w).actions; initial = s; goal = in_order T.goal }) means.initial
      ∙ ap (λ g. record { domains = (task w).domains; actions = (task w).actions; initial = (task w).initial; goal = g })
      (in_order_is T.domains T.goal (task w).goal rises means.goal)

  pub sheet_is : encode first_edition (ordered T) ≡ w
  sheet_is = ap (encode first_edition) ordered_is ∙ encoded

  variables_fit_in : variables_fit T.domains T.initial ≡ true
  variables_fit_in =
      ap (λ ds. variables_fit ds T.initial) means.domains ∙ ap (variables_fit (task w).domains) means.initial
      ∙ variables_pass (task w).domains (task w).initial formed.initial.complete encodes.values formed.initial.below

  few_actions : length T.actions ≤ limits.actions
  few_actions = let same = ap length acts.1 in omega (arith, encodes.actions, length-map T.actions ordered_action)

  pub sheet_writable : writable T ≡ true
  unfolding writable
  sheet_writable =
      let many : length T.domains ≡ length (task w).domains = ap length means.domains in
      let words : length (encode first_edition (ordered T)) ≤ limits.words =
      subst (λ v. length v ≤ limits.words) (sym sheet_is) (subst (λ v. length v ≤ limits.words) encoded encodes.words) in
      let some_variable : 1 ≤ length T.domains = omega (arith, encodes.some_variable) in
      let variables : length T.domains ≤ limits.variables = omega (arith, encodes.variables) in
      rw (
        le-leb 1 (length T.domains) some_variable,
        le-leb (length T.domains) limits.variables variables,
        le-leb (length T.actions) limits.actions few_actions,
        variables_fit_in,
        group_same T.domains (task w).goal rises T.goal means.goal,
        acts.0,
        le-leb (length (encode first_edition (ordered T))) limits.words words,
      )
