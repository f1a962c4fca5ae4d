-- The blocks of a text as formats: variables, mutex groups, operators and axioms, and what is kept of each. Assumes
-- nothing.
use Prim.Native.Nat.{ℕ}
use mathlib.Core.Path.{◌≡◌, refl, sym, ap}
use mathlib.Core.Option.{Option, none, some}
use mathlib.Core.List.{List, [], ◌∷◌, ◌++◌, map, flatten}
use lib.ListN.{length}
use Rattle.ascii.specs.Bytes.{ascii}
use Rattle.sas.specs.Task.{Fact, Assignment}
use Rattle.form.specs.Between.Form as form
use Rattle.planner.specs.Text.{Name, Variable, Change, Effect, Operator, Axiom}
use Rattle.planner.specs.Printed.{said, counted, name_lines, fact_lines, layer_line, variable_lines, group_lines, value_lines, effect_lines, operator_lines, axiom_lines, axioms_line, effect_numbers}
use Rattle.printed_form.specs.Between.Datum.{sat, line}
use Rattle.printed_form.proofs.FormatLaws.{Format, line_format, seq_format, as_format, counted_format}

-- a keyword, a name, and lines of numbers
pub keyword_format : (k : List ℕ) → Format Unit (form.keyword k ∷ []) (λ u. said k ∷ []) (λ u. [])
keyword_format k = line_format (form.keyword k) (λ x. refl)

name_format : Format Name (form.name ∷ []) name_lines (λ n. [])
name_format = line_format form.name (λ x. refl)

abbrev pub fact_tape : Fact → List ℕ
fact_tape f = sat (some f.variable) ∷ sat (some f.value) ∷ []

fact_format : Format Fact (form.numbers form.Fact ∷ []) fact_lines fact_tape
fact_format = line_format (form.numbers form.Fact) (λ x. refl)

passed_format : Format Fact (form.numbers form.PassedFact ∷ []) fact_lines (λ f. [])
passed_format = line_format (form.numbers form.PassedFact) (λ x. refl)

abbrev pub value_tape : ℕ → List ℕ
value_tape n = sat (some n) ∷ []

pub value_format : Format ℕ (form.numbers form.Value ∷ []) value_lines value_tape
value_format = line_format (form.numbers form.Value) (λ x. refl)

abbrev pub effect_tape : Effect → List ℕ
effect_tape e = map sat (effect_numbers e)

effect_format : Format Effect (form.numbers form.Effect ∷ []) effect_lines effect_tape
effect_format = line_format (form.numbers form.Effect) (λ x. refl)

-- how many, and each
abbrev pub counted_tape : {A : Type 0} → (A → List ℕ) → List A → List ℕ
counted_tape tape cs = sat (some (length cs)) ∷ flatten (map tape cs)

-- what is passed over keeps nothing
nothing_kept : {A : Type 0} (cs : List A) → ◌≡◌ {A = List ℕ} (flatten (map (λ c. []) cs)) []
unfolding flatten
nothing_kept [] = refl
nothing_kept (c ∷ cs) = nothing_kept cs

names_format : Format (List Name) (form.counts form.Values ∷ []) (counted name_lines) (λ ns. sat (some (length ns)) ∷ [])
unfolding counted form.after_count
names_format =
    as_format (counted_format name_format form.Values (λ n. refl)) (λ ns. ns) (λ ns. ns) (λ ns. refl) (λ ns. refl) (counted name_lines) (λ ns. refl)
    (λ ns. sat (some (length ns)) ∷ []) (λ ns. ap (λ xs. sat (some (length ns)) ∷ xs) (sym (nothing_kept ns)))

pub facts_format : Format Assignment (form.counts form.Facts ∷ []) (counted fact_lines) (counted_tape fact_tape)
unfolding counted form.after_count
facts_format =
    as_format (counted_format fact_format form.Facts (λ n. refl)) (λ fs. fs) (λ fs. fs) (λ fs. refl) (λ fs. refl) (counted fact_lines) (λ fs. refl)
    (counted_tape fact_tape) (λ fs. refl)

group_facts_format : Format Assignment (form.counts form.GroupFacts ∷ []) (counted fact_lines) (λ fs. [])
unfolding counted form.after_count
group_facts_format =
    as_format (counted_format passed_format form.GroupFacts (λ n. refl)) (λ fs. fs) (λ fs. fs) (λ fs. refl) (λ fs. refl) (counted fact_lines)
    (λ fs. refl) (λ fs. []) (λ fs. sym (nothing_kept fs))

conditions_format : Format Assignment (form.counts form.Conditions ∷ []) (counted fact_lines) (λ fs. [])
unfolding counted form.after_count
conditions_format =
    as_format (counted_format passed_format form.Conditions (λ n. refl)) (λ fs. fs) (λ fs. fs) (λ fs. refl) (λ fs. refl) (counted fact_lines)
    (λ fs. refl) (λ fs. []) (λ fs. sym (nothing_kept fs))

effects_format : Format (List Effect) (form.counts form.Effects ∷ []) (counted effect_lines) (counted_tape effect_tape)
unfolding counted form.after_count
effects_format =
    as_format (counted_format effect_format form.Effects (λ n. refl)) (λ es. es) (λ es. es) (λ es. refl) (λ es. refl) (counted effect_lines) (λ es. refl)
    (counted_tape effect_tape) (λ es. refl)

-- a variable: its range is kept
abbrev pub variable_tape : Variable → List ℕ
variable_tape v = sat (some (length v.values)) ∷ []

layer_same : (x : Option ℕ) → layer_line x ≡ line (form.numbers form.Layer) x
layer_same none = refl
layer_same (some n) = refl

layer_format : Format (Option ℕ) (form.numbers form.Layer ∷ []) (λ x. layer_line x ∷ []) (λ x. [])
layer_format =
    as_format (line_format (form.numbers form.Layer) (λ x. refl)) (λ x. x) (λ x. x) (λ x. refl) (λ x. refl) (λ x. layer_line x ∷ [])
    (λ x. ap (λ k. k ∷ []) (layer_same x)) (λ x. []) (λ x. refl)

pub variable_format : Format Variable form.variable_lines variable_lines variable_tape
variable_format =
    as_format
    (seq_format (keyword_format (ascii "begin_variable"))
    (seq_format name_format (seq_format layer_format (seq_format names_format (keyword_format (ascii "end_variable"))))))
    (λ v. (tt, (v.name, (v.layer, (v.values, tt))))) (λ c. record { name = c.1.0; layer = c.1.1.0; values = c.1.1.1.0 })
    (λ c. refl) (λ v. refl) variable_lines (λ v. refl) variable_tape (λ v. refl)

pub group_format : Format Assignment form.group_lines group_lines (λ g. [])
group_format =
    as_format
    (seq_format (keyword_format (ascii "begin_mutex_group")) (seq_format group_facts_format (keyword_format (ascii "end_mutex_group"))))
    (λ g. (tt, (g, tt))) (λ c. c.1.0) (λ c. refl) (λ g. refl) group_lines (λ g. refl) (λ g. []) (λ g. refl)

-- an operator: prevail conditions, effects and cost are kept
abbrev pub operator_tape : Operator → List ℕ
operator_tape o = counted_tape fact_tape o.prevail ++ (counted_tape effect_tape o.effects ++ (sat (some o.cost) ∷ []))

pub operator_format : Format Operator form.operator_lines operator_lines operator_tape
operator_format =
    as_format
    (seq_format (keyword_format (ascii "begin_operator"))
    (seq_format name_format
    (seq_format facts_format (seq_format effects_format (seq_format value_format (keyword_format (ascii "end_operator")))))))
    (λ o. (tt, (o.name, (o.prevail, (o.effects, (o.cost, tt))))))
    (λ c. record { name = c.1.0; prevail = c.1.1.0; effects = c.1.1.1.0; cost = c.1.1.1.1.0 })
    (λ c. refl) (λ o. refl) operator_lines (λ o. refl) operator_tape (λ o. refl)

head_format : Format Change (form.numbers form.Head ∷ []) (λ c. line (form.numbers form.Head) c ∷ []) (λ c. [])
head_format = line_format (form.numbers form.Head) (λ x. refl)

pub axiom_format : Format Axiom form.axiom_lines axiom_lines (λ a. [])
axiom_format =
    as_format
    (seq_format (keyword_format (ascii "begin_rule"))
    (seq_format conditions_format (seq_format head_format (keyword_format (ascii "end_rule")))))
    (λ a. (tt, (a.conditions, (a.head, tt)))) (λ c. record { conditions = c.1.0; head = c.1.1.0 })
    (λ c. refl) (λ a. refl) axiom_lines (λ a. refl) (λ a. []) (λ a. refl)

-- the sections that count blocks
pub groups_format : Format (List Assignment) (form.counts form.Groups ∷ []) (counted group_lines) (λ gs. [])
unfolding counted form.after_count
groups_format =
    as_format (counted_format group_format form.Groups (λ n. refl)) (λ gs. gs) (λ gs. gs) (λ gs. refl) (λ gs. refl) (counted group_lines) (λ gs. refl)
    (λ gs. []) (λ gs. sym (nothing_kept gs))

pub operators_format : Format (List Operator) (form.counts form.Operators ∷ []) (counted operator_lines) (counted_tape operator_tape)
unfolding counted form.after_count
operators_format =
    as_format (counted_format operator_format form.Operators (λ n. refl)) (λ os. os) (λ os. os) (λ os. refl) (λ os. refl) (counted operator_lines)
    (λ os. refl) (counted_tape operator_tape) (λ os. refl)

pub axioms_format : Format (List Axiom) (form.counts form.Axioms ∷ []) (λ cs. axioms_line (length cs) ∷ flatten (map axiom_lines cs)) (λ cs. [])
unfolding form.after_count
axioms_format =
    as_format (counted_format axiom_format form.Axioms (λ n. refl)) (λ cs. cs) (λ cs. cs) (λ cs. refl) (λ cs. refl)
    (λ cs. axioms_line (length cs) ∷ flatten (map axiom_lines cs)) (λ cs. refl) (λ cs. []) (λ cs. sym (nothing_kept cs))
