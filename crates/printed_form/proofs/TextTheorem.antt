-- The lines that fill what a text must have are those of a text, and of one alone; and what is kept of them. Assumes
-- nothing.
use Prim.Native.Nat.{ℕ}
use mathlib.Core.Path.{◌≡◌, refl, sym, ◌∙◌, ap, subst}
use mathlib.Core.Bool.{Bool, cond}
use mathlib.Core.Option.{some}
use mathlib.Core.List.{List, [], ◌∷◌, ◌++◌, map, flatten, append-nil, head-eq_of_cons-eq, tail-eq_of_cons-eq, cons≢nil}
use mathlib.Core.List.{Memᴰ}
use lib.ListN.{length}
use lib.Seq.{append_snoc}
use Rattle.ascii.specs.Bytes.{ascii}
use Rattle.sas.specs.Task.{Assignment}
use Rattle.form.specs.Between.Form as form
use Rattle.planner.specs.Text.{Variable, Operator, Axiom, Text}
use Rattle.planner.specs.Printed.{Line, keyword, number_line, counted, variable_lines, group_lines, value_lines, fact_lines, operator_lines, axiom_lines, axioms_line, lines}
use Rattle.planner.specs.Broken.{OneLine, Formed}
use Rattle.printed_form.specs.Between.Datum.{sat, line}
use Rattle.printed_form.specs.Between.Filled.{Fills}
use Rattle.printed_form.proofs.DatumLaws.{datum_once}
use Rattle.printed_form.proofs.FillLaws.{fills_both, Parts, fills_split}
use Rattle.printed_form.proofs.FormatLaws.{EachOne, each_parts, fills_front, Format, line_format, seq_format, as_format, times_sound, times_whole, times_once}
use Rattle.printed_form.proofs.BlockLaws.{keyword_format, value_format, fact_tape, value_tape, counted_tape, variable_tape, operator_tape, facts_format, variable_format, groups_format, operators_format, axioms_format}

-- the version and the metric
abbrev front_of : Bool → List Line
front_of b =
    keyword "begin_version" ∷ keyword "3" ∷ keyword "end_version" ∷ keyword "begin_metric" ∷ number_line (cond b 1 0) ∷ keyword "end_metric" ∷ []

abbrev metric_tape : Bool → List ℕ
metric_tape b = sat (some (cond b 1 0)) ∷ []

front_format : Format Bool form.front_lines front_of metric_tape
front_format =
    as_format
    (seq_format (keyword_format (ascii "begin_version"))
    (seq_format (keyword_format (ascii "3"))
    (seq_format (keyword_format (ascii "end_version"))
    (seq_format (keyword_format (ascii "begin_metric"))
    (seq_format (line_format (form.numbers form.Metric) (λ x. refl)) (keyword_format (ascii "end_metric")))))))
    (λ b. (tt, (tt, (tt, (tt, (b, tt)))))) (λ c. c.1.1.1.1.0) (λ c. refl) (λ b. refl) front_of (λ b. refl) metric_tape (λ b. refl)

-- what stands between variables and state, and behind the state
abbrev middle_due : List form.Due
middle_due = form.counts form.Groups ∷ form.keyword (ascii "begin_state") ∷ []

abbrev middle_of : List Assignment → List Line
middle_of gs = counted group_lines gs ++ (keyword "begin_state" ∷ [])

middle_format : Format (List Assignment) middle_due middle_of (λ gs. [])
middle_format =
    as_format (seq_format groups_format (keyword_format (ascii "begin_state"))) (λ gs. (gs, tt)) (λ c. c.0) (λ c. refl) (λ gs. refl) middle_of
    (λ gs. refl) (λ gs. []) (λ gs. refl)

record End : Type 0 where
  pub goal : Assignment
  pub operators : List Operator
  pub axioms : List Axiom

abbrev end_due : List form.Due
end_due =
    form.keyword (ascii "end_state")
    ∷ (form.goal_lines ++ (form.counts form.Operators ∷ form.counts form.Axioms ∷ []))

abbrev end_of : End → List Line
end_of e =
    keyword "end_state"
    ∷ keyword "begin_goal"
    ∷ (counted fact_lines e.goal
    ++ (keyword "end_goal"
    ∷ (counted operator_lines e.operators ++ (axioms_line (length e.axioms) ∷ flatten (map axiom_lines e.axioms)))))

abbrev end_tape : End → List ℕ
end_tape e = counted_tape fact_tape e.goal ++ (counted_tape operator_tape e.operators ++ [])

end_format : Format End end_due end_of end_tape
end_format =
    as_format
    (seq_format (keyword_format (ascii "end_state"))
    (seq_format (keyword_format (ascii "begin_goal"))
    (seq_format facts_format (seq_format (keyword_format (ascii "end_goal")) (seq_format operators_format axioms_format)))))
    (λ e. (tt, (tt, (e.goal, (tt, (e.operators, e.axioms))))))
    (λ c. record { goal = c.1.1.0; operators = c.1.1.1.1.0; axioms = c.1.1.1.1.1 })
    (λ c. refl) (λ e. refl) end_of (λ e. refl) end_tape (λ e. refl)

-- what a number of variables asks for, in these parts
state_due : ℕ → List form.Due
state_due n = form.times n (form.numbers form.Value ∷ [])

after_parts : (n : ℕ) → form.after_count form.Variables n ≡ form.times n form.variable_lines ++ (middle_due ++ (state_due n ++ end_due))
unfolding form.after_count state_due
after_parts n =
    ap (λ ds. form.times n form.variable_lines ++ (middle_due ++ ds))
    (append_snoc (form.times n (form.numbers form.Value ∷ [])) (form.keyword (ascii "end_state"))
    (form.goal_lines ++ (form.counts form.Operators ∷ form.counts form.Axioms ∷ [])))

-- the parts of a text
abbrev variables_of : List Variable → List Line
variables_of vs = flatten (map variable_lines vs)

abbrev state_of : List ℕ → List Line
state_of s = flatten (map value_lines s)

abbrev text_end : Text → End
text_end t = record { goal = t.goal; operators = t.operators; axioms = t.axioms }

abbrev behind_of : Text → List Line
behind_of t = variables_of t.variables ++ (middle_of t.groups ++ (state_of t.state ++ end_of (text_end t)))

abbrev count_of : Text → Line
count_of t = line (form.counts form.Variables) (length t.variables)

pub text_parts : (t : Text) → lines t ≡ front_of t.metric ++ (count_of t ∷ behind_of t)
unfolding lines counted
text_parts t =
    ap (λ ls. front_of t.metric ++ (count_of t ∷ (variables_of t.variables ++ ls)))
    (sym (append_snoc (counted group_lines t.groups) (keyword "begin_state") (state_of t.state ++ end_of (text_end t))))

-- what is kept of a text
abbrev pub behind_tape : Text → List ℕ
behind_tape t =
    flatten (map variable_tape t.variables)
    ++ (flatten (map value_tape t.state)
    ++ (counted_tape fact_tape t.goal ++ (counted_tape operator_tape t.operators ++ [])))

abbrev pub text_tape : Text → List ℕ
text_tape t = sat (some (cond t.metric 1 0)) ∷ sat (some (length t.variables)) ∷ behind_tape t

-- a text that is formed, its lines one by one
each_of : (ls : List Line) → ((l : Line) → Memᴰ l ls → OneLine l.bytes) → EachOne ls
each_of [] one = tt
each_of (l ∷ ls) one = (one l (Memᴰ.head refl), each_of ls (λ k m. one k (Memᴰ.tail m)))

record EachPart (t : Text) : Type 0 where
  pub front : EachOne (front_of t.metric)
  pub count : OneLine (count_of t).bytes
  pub behind : EachOne (behind_of t)
  pub variables : EachOne (variables_of t.variables)
  pub middle : EachOne (middle_of t.groups)
  pub state : EachOne (state_of t.state)
  pub end : EachOne (end_of (text_end t))

each_part : (t : Text) → Formed t → EachPart t
each_part t formed =
    let all : EachOne (front_of t.metric ++ (count_of t ∷ behind_of t)) = subst EachOne (text_parts t) (each_of (lines t) formed.one_each) in
    let (front, rest) = each_parts (front_of t.metric) (count_of t ∷ behind_of t) all in
    let (vs, more) = each_parts (variables_of t.variables) (middle_of t.groups ++ (state_of t.state ++ end_of (text_end t))) rest.1 in
    let (middle, others) = each_parts (middle_of t.groups) (state_of t.state ++ end_of (text_end t)) more in
    let (state, end) = each_parts (state_of t.state) (end_of (text_end t)) others in
    record { front = front; count = rest.0; behind = rest.1; variables = vs; middle = middle; state = state; end = end }

-- what is due behind the number of variables
module _ (t : Text) (formed : Formed t) where
  abbrev part : EachPart t
  part = each_part t formed

  fills_state : Fills (state_due (length t.variables)) (state_of t.state) (flatten (map value_tape t.state))
  unfolding state_due
  fills_state =
      subst (λ n. Fills (form.times n (form.numbers form.Value ∷ [])) (state_of t.state) (flatten (map value_tape t.state))) formed.values
      (times_sound value_format t.state part.state)

  fills_behind : Fills (form.after_count form.Variables (length t.variables) ++ []) (behind_of t) (behind_tape t)
  fills_behind =
      subst (λ ds. Fills ds (behind_of t) (behind_tape t))
      (sym (append-nil (form.after_count form.Variables (length t.variables)) ∙ after_parts (length t.variables)))
      (fills_both _ _ (variables_of t.variables) _ (flatten (map variable_tape t.variables)) _
      (times_sound variable_format t.variables part.variables)
      (fills_both middle_due _ (middle_of t.groups) _ [] _ (middle_format.sound t.groups part.middle)
      (fills_both (state_due (length t.variables)) end_due (state_of t.state) (end_of (text_end t)) (flatten (map value_tape t.state)) (end_tape (text_end t))
      fills_state (end_format.sound (text_end t) part.end))))

  fills_count : Fills (form.counts form.Variables ∷ []) (count_of t ∷ behind_of t) (sat (some (length t.variables)) ∷ behind_tape t)
  fills_count =
      record {
        datum = length t.variables;
        is = refl;
        one_line = part.count;
        others = behind_tape t;
        kept = refl;
        rest = fills_behind;
      }

  -- the lines of a text fill what a text must have
  pub text_fills : Fills form.text_lines (lines t) (text_tape t)
  text_fills =
      subst (λ ls. Fills form.text_lines ls (text_tape t)) (sym (text_parts t))
      (fills_both form.front_lines (form.counts form.Variables ∷ []) (front_of t.metric) (count_of t ∷ behind_of t) (metric_tape t.metric) _
      (front_format.sound t.metric part.front) fills_count)

-- and lines that do are those of a text
record Behind (n : ℕ) (ls : List Line) : Type 0 where
  pub variables : List Variable
  pub groups : List Assignment
  pub state : List ℕ
  pub end : End
  pub count : length variables ≡ n
  pub values : length state ≡ n
  pub are : variables_of variables ++ (middle_of groups ++ (state_of state ++ end_of end)) ≡ ls

three_parts : {a b c d a' b' c' d' ls : List Line} {x y : List Line} → a ≡ a' → b ≡ b' → c ≡ c' → d ≡ d' → c' ++ d' ≡ y → b' ++ y ≡ x → a' ++ x ≡ ls
    → a ++ (b ++ (c ++ d)) ≡ ls
three_parts e f g h i j k = cc

behind_whole : (n : ℕ) (ls : List Line) (xs : List ℕ) → Fills (form.after_count form.Variables n ++ []) ls xs → Behind n ls
unfolding state_due
behind_whole n ls xs fill =
    let due : form.after_count form.Variables n ++ [] ≡ form.times n form.variable_lines ++ (middle_due ++ (state_due n ++ end_due)) =
    append-nil (form.after_count form.Variables n) ∙ after_parts n in
    let first : Parts (form.times n form.variable_lines) (middle_due ++ (state_due n ++ end_due)) ls xs =
    fills_split ls (form.times n form.variable_lines) (middle_due ++ (state_due n ++ end_due)) xs (subst (λ ds. Fills ds ls xs) due fill) in
    let second : Parts middle_due (state_due n ++ end_due) first.second first.kept_second =
    fills_split first.second middle_due (state_due n ++ end_due) first.kept_second first.fills_second in
    let third : Parts (state_due n) end_due second.second second.kept_second =
    fills_split second.second (state_due n) end_due second.kept_second second.fills_second in
    let (vs, count, are) = times_whole variable_format n first.first first.kept_first first.fills_first in
    let (gs, also) = middle_format.whole second.first second.kept_first second.fills_first in
    let (s, values, as_well) = times_whole value_format n third.first third.kept_first third.fills_first in
    let (e, too) = end_format.whole third.second third.kept_second third.fills_second in
    record {
      variables = vs;
      groups = gs;
      state = s;
      end = e;
      count = count;
      values = values;
      are = three_parts are also as_well too third.lines second.lines first.lines;
    }

abbrev text_of : Bool → (n : ℕ) (ls : List Line) → Behind n ls → Text
text_of b n ls r =
    record {
      metric = b;
      variables = r.variables;
      groups = r.groups;
      state = r.state;
      goal = r.end.goal;
      operators = r.end.operators;
      axioms = r.end.axioms;
    }

pub record IsText (ls : List Line) : Type 0 where
  pub text : Text
  pub values : length text.state ≡ length text.variables
  pub are : lines text ≡ ls

count_whole : (b : Bool) (ls : List Line) (xs : List ℕ) → Fills (form.counts form.Variables ∷ []) ls xs → IsText (front_of b ++ ls)
count_whole b [] xs (same, nothing) = absurd (cons≢nil same)
count_whole b (l ∷ ls) xs fill =
    let n : ℕ = fill.datum in
    let rest : Behind n ls = behind_whole n ls fill.others fill.rest in
    record {
      text = text_of b n ls rest;
      values = rest.values ∙ sym rest.count;
      are =
          text_parts (text_of b n ls rest)
          ∙ ap (λ k. front_of b ++ (line (form.counts form.Variables) k ∷ behind_of (text_of b n ls rest))) rest.count
          ∙ ap (λ k. front_of b ++ (k ∷ behind_of (text_of b n ls rest))) fill.is
          ∙ ap (λ ks. front_of b ++ (l ∷ ks)) rest.are;
    }

pub text_whole : (ls : List Line) (xs : List ℕ) → Fills form.text_lines ls xs → IsText ls
text_whole ls xs fill =
    let parts : Parts form.front_lines (form.counts form.Variables ∷ []) ls xs =
    fills_split ls form.front_lines (form.counts form.Variables ∷ []) xs fill in
    let (b, is) = front_format.whole parts.first parts.kept_first parts.fills_first in
    subst IsText (ap (λ ms. ms ++ parts.second) is ∙ parts.lines) (count_whole b parts.second parts.kept_second parts.fills_second)

-- and of one text alone
record SameBehind (t u : Text) : Type 0 where
  pub variables : t.variables ≡ u.variables
  pub groups : t.groups ≡ u.groups
  pub state : t.state ≡ u.state
  pub end : text_end t ≡ text_end u

module _ (t u : Text) (formed : Formed t) (also : Formed u) (many : length t.variables ≡ length u.variables) where
  abbrev p : EachPart t
  p = each_part t formed

  abbrev q : EachPart u
  q = each_part u also

  abbrev after_middle : Text → List Line
  after_middle v = state_of v.state ++ end_of (text_end v)

  same_behind : behind_of t ≡ behind_of u → SameBehind t u
  same_behind e =
      let (vs, rest) =
      fills_front (variables_of t.variables) (variables_of u.variables) (form.times (length u.variables) form.variable_lines)
      (flatten (map variable_tape t.variables)) (flatten (map variable_tape u.variables)) (middle_of t.groups ++ after_middle t)
      (middle_of u.groups ++ after_middle u)
      (subst (λ n. Fills (form.times n form.variable_lines) (variables_of t.variables) (flatten (map variable_tape t.variables))) many
      (times_sound variable_format t.variables p.variables))
      (times_sound variable_format u.variables q.variables) e in
      let (gs, others) =
      fills_front (middle_of t.groups) (middle_of u.groups) middle_due [] [] (after_middle t) (after_middle u)
      (middle_format.sound t.groups p.middle) (middle_format.sound u.groups q.middle) rest in
      let (s, ends) =
      fills_front (state_of t.state) (state_of u.state) (state_due (length u.variables))
      (flatten (map value_tape t.state)) (flatten (map value_tape u.state)) (end_of (text_end t)) (end_of (text_end u))
      (subst (λ n. Fills (state_due n) (state_of t.state) (flatten (map value_tape t.state))) many (fills_state t formed))
      (fills_state u also) others in
      record {
        variables = times_once variable_format t.variables u.variables many p.variables q.variables vs;
        groups = middle_format.once t.groups u.groups p.middle q.middle gs;
        state = times_once value_format t.state u.state (formed.values ∙ many ∙ sym also.values) p.state q.state s;
        end = end_format.once (text_end t) (text_end u) p.end q.end ends;
      }

same_text : (t u : Text) → t.metric ≡ u.metric → SameBehind t u → t ≡ u
same_text t u metric same =
    ap (λ b. record { metric = b; variables = t.variables; groups = t.groups; state = t.state; goal = t.goal; operators = t.operators; axioms = t.axioms }) metric
    ∙ ap (λ vs. record { metric = u.metric; variables = vs; groups = t.groups; state = t.state; goal = t.goal; operators = t.operators; axioms = t.axioms }) same.variables
    ∙ ap (λ gs. record { metric = u.metric; variables = u.variables; groups = gs; state = t.state; goal = t.goal; operators = t.operators; axioms = t.axioms }) same.groups
    ∙ ap (λ s. record { metric = u.metric; variables = u.variables; groups = u.groups; state = s; goal = t.goal; operators = t.operators; axioms = t.axioms }) same.state
    ∙ ap (λ e. record { metric = u.metric; variables = u.variables; groups = u.groups; state = u.state; goal = e.goal; operators = e.operators; axioms = e.axioms }) same.end

pub text_once : (t u : Text) → Formed t → Formed u → lines t ≡ lines u → t ≡ u
text_once t u formed also e =
    let (fronts, rest) =
    fills_front (front_of t.metric) (front_of u.metric) form.front_lines (metric_tape t.metric) (metric_tape u.metric) (count_of t ∷ behind_of t)
    (count_of u ∷ behind_of u) (front_format.sound t.metric (each_part t formed).front) (front_format.sound u.metric (each_part u also).front)
    (sym (text_parts t) ∙ e ∙ text_parts u) in
    let metric : t.metric ≡ u.metric =
    front_format.once t.metric u.metric (each_part t formed).front (each_part u also).front fronts in
    let many : length t.variables ≡ length u.variables =
    datum_once (form.counts form.Variables) (length t.variables) (length u.variables) (ap (λ k. k.bytes) (head-eq_of_cons-eq rest)) in
    same_text t u metric (same_behind t u formed also many (tail-eq_of_cons-eq rest))
