-- The tables of a walk tell the trace of each known fact: behind a step they tell what the trace is behind it, since each fact that the step writes has numbers
-- of its own, its support is told before the step's own writes count, and one that stands twice among its effects is written once. For one fact by the places
-- that are set, then along the facts. Assumes nothing.
use Prim.Native.Nat.{ℕ, suc, ◌+◌, ◌/◌, ◌<◌}
use native.Mathlib.Numerals.{add-one}
use native.Mathlib.Omega.{arith}
use mathlib.Core.Path.{◌≡◌, refl, sym, ◌∙◌, ap}
use mathlib.Core.Logic.{◌≢◌, ◌⊎◌, inl, inr, ⊎_elim}
use mathlib.Core.Bool.{Bool, true, false, true≢false, cond, ◌&&◌, ◌||◌}
use mathlib.Core.List.{List, [], ◌∷◌, Memᴰ}
use lib.ListN.{length, get_or, set, length-set}
use lib.Seq.{get_or-set_same, get_or-set_other}
use lib.Dec.{ltb, eqb}
use borrow.Author.Tests.{eqb-true, eqb-false, eq-eqb, ne_eqb}
use Rattle.sas.specs.Task.{Fact, Assignment, Action}
use Rattle.sas.specs.Plan.{written, written_always}
use Rattle.sas.proofs.EffectLaws.{always_may}
use Rattle.sas.specs.Between.WellFormed.{Known, ActionFormed}
use Rattle.reduction.specs.Between.Wanted.{same_fact, has}
use Rattle.sas.specs.Conflict.{some_of}
use Rattle.reduction.specs.Between.Landmarks.{other_value, sets_other, Trace, passed}
use Rattle.reduction.proofs.MemberLaws.{same_fact_true, same_fact_refl}
use Rattle.reduction.proofs.marks.LinkLaws.{either}
use Rattle.sheet.specs.Limits.{limits}
use Rattle.sheet.specs.Decode.{domains}
use Rattle.sheet.specs.Between.Encode.{fact_word}
use Rattle.sheet.specs.Causes.{Accepted}
use Rattle.fact_table.specs.Between.Tables.{most_facts}
use Rattle.fact_table.proofs.WantsLaws.{fits}
use Rattle.trace.specs.Between.Traces.{trace_start, latest_start, until_at, supporting, trace_wrote, traces_wrote, latest_wrote, latest_each, Tables, tables, wrote_each}

-- what the tables tell of a fact
abbrev pub read : Tables → Fact → Trace
read t g =
    record {
      last = get_or t.traces (trace_start (fact_word g)) 0;
      until = until_at t.latest (fact_word g);
      support = get_or t.traces (trace_start (fact_word g) + 1) 0;
    }

-- tables that have room for every fact and every variable
pub record Sized (t : Tables) : Type 0 where
  pub traces : length t.traces ≡ trace_start most_facts
  pub latest : length t.latest ≡ latest_start limits.variables

-- three places that are set one after the other, and two
module _ (l : List ℕ) (i x y z : ℕ) where
  abbrev one : List ℕ
  one = set l i x

  abbrev two : List ℕ
  two = set one (i + 1) y

  abbrev three : List ℕ
  three = set two (i + 2) z

  module _ (room : i + 2 < length l) where
    first_set : get_or three i 0 ≡ x
    first_set =
        get_or-set_other two (i + 2) i z 0 (λ e. omega arith)
        ∙ get_or-set_other one (i + 1) i y 0 (λ e. omega arith)
        ∙ get_or-set_same l i x 0 (omega arith)

    second_set : get_or three (i + 1) 0 ≡ y
    second_set = get_or-set_other two (i + 2) (i + 1) z 0 (λ e. omega arith) ∙ get_or-set_same one (i + 1) y 0 (omega (arith, length-set l i x))

    third_set : get_or three (i + 2) 0 ≡ z
    third_set = get_or-set_same two (i + 2) z 0 (omega (arith, length-set one (i + 1) y, length-set l i x))

  three_stay : (k : ℕ) → k ≢ i → k ≢ i + 1 → k ≢ i + 2 → get_or three k 0 ≡ get_or l k 0
  three_stay k first second third =
      get_or-set_other two (i + 2) k z 0 third ∙ get_or-set_other one (i + 1) k y 0 second ∙ get_or-set_other l i k x 0 first

module _ (l : List ℕ) (i x y : ℕ) where
  abbrev behind : List ℕ
  behind = set l (i + 1) x

  abbrev both : List ℕ
  both = set behind i y

  module _ (room : i + 1 < length l) where
    here_set : get_or both i 0 ≡ y
    here_set = get_or-set_same behind i y 0 (omega (arith, length-set l (i + 1) x))

    behind_set : get_or both (i + 1) 0 ≡ x
    behind_set = get_or-set_other behind i (i + 1) y 0 (λ e. omega arith) ∙ get_or-set_same l (i + 1) x 0 room

  both_stay : (k : ℕ) → k ≢ i → k ≢ i + 1 → get_or both k 0 ≡ get_or l k 0
  both_stay k first second = get_or-set_other behind i k y 0 first ∙ get_or-set_other l (i + 1) k x 0 second

-- the words of the variables, where a marked step at position j writes the fact x of variable v
module _ (latest : List ℕ) (j x v : ℕ) (variable : x / limits.values ≡ v) where
  latest_is : latest_wrote j x latest ≡ three latest (latest_start v) x (j + 1) (until_at latest x)
  unfolding latest_wrote
  latest_is = rw variable

-- what the words of a variable tell of a fact
pub until_parts : (latest : List ℕ) (y v : ℕ) → y / limits.values ≡ v
    → until_at latest y ≡ cond (eqb (get_or latest (latest_start v) 0) y) (get_or latest (latest_start v + 2) 0) (get_or latest (latest_start v + 1) 0)
unfolding until_at
until_parts latest y v variable = rw variable

module _ (w : List ℕ) (accepted : Accepted w) where
  pub word_variable : (f : Fact) → Known (domains w) f → fact_word f / limits.values ≡ f.variable
  word_variable f known = let small : f.value < limits.values = (fits w accepted f known).0 in omega arith

  -- two facts with one word are the same
  one_word : (f g : Fact) → Known (domains w) f → Known (domains w) g → fact_word f ≡ fact_word g → f ≡ g
  one_word f g known known' same =
      let small : f.value < limits.values = (fits w accepted f known).0 in
      let small' : g.value < limits.values = (fits w accepted g known').0 in
      let variable : f.variable ≡ g.variable = omega arith in
      let value : f.value ≡ g.value = omega arith in
      λ i. record { variable = variable i; value = value i }

  -- a known variable has words in its table
  pub variable_room : (f : Fact) → Known (domains w) f → f.variable < limits.variables
  variable_room f known = let below : fact_word f < most_facts = (fits w accepted f known).1 in omega arith

  -- one fact f is written, and the tables tell of g
  module _ (t : Tables) (sized : Sized t) (j : ℕ) (f g : Fact) (known : Known (domains w) f) (known' : Known (domains w) g) where
    abbrev x : ℕ
    x = fact_word f

    abbrev y : ℕ
    y = fact_word g

    -- the number that tells the last marked writer of another value
    until_marked : until_at (latest_wrote j x t.latest) y ≡ cond (other_value g f) (suc j) (read t g).until
    until_marked = ⊎_elim (λ e. same_variable (eqb-true _ _ e)) (λ e. other_variable e) (either (eqb f.variable g.variable))
      where
        room : latest_start f.variable + 2 < length t.latest
        room = omega (arith, sized.latest, variable_room f known)

        after : List ℕ
        after = latest_wrote j x t.latest

        here : x / limits.values ≡ f.variable
        here = word_variable f known

        there : y / limits.values ≡ g.variable
        there = word_variable g known'

        same_variable : f.variable ≡ g.variable → until_at after y ≡ cond (other_value g f) (suc j) (read t g).until
        same_variable e = ⊎_elim same_value another (either (eqb f.value g.value))
          where
            parts : until_at after y ≡ cond (eqb x y) (until_at t.latest x) (j + 1)
            parts =
                let v : ℕ = latest_start f.variable in
                let other : ℕ = until_at t.latest x in
                until_parts after y f.variable (there ∙ sym e)
                ∙ rw (
                  latest_is t.latest j x f.variable here,
                  first_set t.latest v x (j + 1) other room,
                  second_set t.latest v x (j + 1) other room,
                  third_set t.latest v x (j + 1) other room,
                )

            same_value : eqb f.value g.value ≡ true → until_at after y ≡ cond (other_value g f) (suc j) (read t g).until
            same_value h =
                let value : f.value ≡ g.value = eqb-true _ _ h in
                let same : x ≡ y = ap fact_word (λ i. record { variable = e i; value = value i }) in
                parts ∙ rw (h, eq-eqb x y same, eq-eqb _ _ e) (ap (until_at t.latest) same)

            another : eqb f.value g.value ≡ false → until_at after y ≡ cond (other_value g f) (suc j) (read t g).until
            another h =
                let different : x ≢ y = λ same. eqb-false _ _ h (ap (λ k. k.value) (one_word f g known known' same)) in
                parts ∙ rw (h, ne_eqb x y different, eq-eqb _ _ e) (add-one j)

        other_variable : eqb f.variable g.variable ≡ false → until_at after y ≡ cond (other_value g f) (suc j) (read t g).until
        other_variable e =
            let apart : f.variable ≢ g.variable = eqb-false _ _ e in
            let v : ℕ = latest_start f.variable in
            let u : ℕ = latest_start g.variable in
            let stay : (k : ℕ) → k ≢ v → k ≢ v + 1 → k ≢ v + 2 → get_or after k 0 ≡ get_or t.latest k 0
            = λ k first second third. rw (latest_is t.latest j x f.variable here) (three_stay t.latest v x (j + 1) (until_at t.latest x) k first second third) in
            until_parts after y g.variable there
            ∙ rw (
              e,
              stay u (λ h. apart (omega arith)) (λ h. omega arith) (λ h. omega arith),
              stay (u + 1) (λ h. omega arith) (λ h. apart (omega arith)) (λ h. omega arith),
              stay (u + 2) (λ h. omega arith) (λ h. omega arith) (λ h. apart (omega arith)),
            )
            (sym (until_parts t.latest y g.variable there))

  module _ (j : ℕ) where
    -- tables keep their size
    latest_sized : (e : Assignment) (latest : List ℕ) → length (latest_each j e latest) ≡ length latest
    unfolding latest_each latest_wrote
    latest_sized [] latest = refl
    latest_sized (f ∷ e) latest = latest_sized e (latest_wrote j (fact_word f) latest) ∙ simp length-set

    trace_sized : (latest : List ℕ) (x : ℕ) (traces : List ℕ) → length (trace_wrote j latest x traces) ≡ length traces
    unfolding trace_wrote
    trace_sized latest x traces = by_case (eqb (get_or traces (trace_start x) 0) j)
      where
        support : ℕ
        support = supporting (get_or traces (trace_start x) 0) (until_at latest x) j

        by_case : (b : Bool) → length (cond b traces (set (set traces (trace_start x + 1) support) (trace_start x) j)) ≡ length traces
        by_case true = refl
        by_case false = simp length-set

    traces_sized : (latest : List ℕ) (e : Assignment) (traces : List ℕ) → length (traces_wrote j latest e traces) ≡ length traces
    unfolding traces_wrote
    traces_sized latest [] traces = refl
    traces_sized latest (f ∷ e) traces = traces_sized latest e (trace_wrote j latest (fact_word f) traces) ∙ trace_sized latest (fact_word f) traces

    -- the numbers of one fact g, where `latest` has what earlier steps wrote
    module _ (latest : List ℕ) (g : Fact) (known : Known (domains w) g) where
      abbrev last_of : List ℕ → ℕ
      last_of traces = get_or traces (trace_start (fact_word g)) 0

      abbrev support_of : List ℕ → ℕ
      support_of traces = get_or traces (trace_start (fact_word g) + 1) 0

      abbrev new_support : List ℕ → ℕ
      new_support traces = supporting (last_of traces) (until_at latest (fact_word g)) j

      -- one that the step has written already stays
      written_stays : (traces : List ℕ) → last_of traces ≡ j → trace_wrote j latest (fact_word g) traces ≡ traces
      unfolding trace_wrote
      written_stays traces e = rw (eq-eqb (last_of traces) j e)

      -- one that it has not gets its support and its writer
      new_written : (traces : List ℕ) → length traces ≡ trace_start most_facts → last_of traces ≢ j
          → (last_of (trace_wrote j latest (fact_word g) traces) ≡ j) × (support_of (trace_wrote j latest (fact_word g) traces) ≡ new_support traces)
      unfolding trace_wrote
      new_written traces sized other =
          let room : trace_start (fact_word g) + 1 < length traces = omega (arith, (fits w accepted g known).1) in
          rw (ne_eqb (last_of traces) j other)
          (here_set traces (trace_start (fact_word g)) (new_support traces) j room, behind_set traces (trace_start (fact_word g)) (new_support traces) j room)

      -- to write another fact leaves both
      others_stay : (f : Fact) (traces : List ℕ) → fact_word f ≢ fact_word g
          → (last_of (trace_wrote j latest (fact_word f) traces) ≡ last_of traces) × (support_of (trace_wrote j latest (fact_word f) traces) ≡ support_of traces)
      unfolding trace_wrote
      others_stay f traces other = by_case (eqb (get_or traces (trace_start (fact_word f)) 0) j)
        where
          put : List ℕ
          put = set (set traces (trace_start (fact_word f) + 1) (supporting (get_or traces (trace_start (fact_word f)) 0) (until_at latest (fact_word f)) j)) (trace_start (fact_word f)) j

          by_case : (b : Bool) → (last_of (cond b traces put) ≡ last_of traces) × (support_of (cond b traces put) ≡ support_of traces)
          by_case true = (refl, refl)
          by_case false = (
            both_stay traces (trace_start (fact_word f)) _ j (trace_start (fact_word g)) (λ h. other (omega arith)) (λ h. omega arith),
            both_stay traces (trace_start (fact_word f)) _ j (trace_start (fact_word g) + 1) (λ h. omega arith) (λ h. other (omega arith)),
          )

      -- a fact is g, or has another word
      same_or_apart : (f : Fact) → Known (domains w) f → (g ≡ f) ⊎ ((same_fact g f ≡ false) × (fact_word f ≢ fact_word g))
      same_or_apart f here =
          ⊎_elim
          (λ e. inl (same_fact_true g f e))
          (λ e. inr (e, λ same. true≢false (sym (rw (one_word f g here known same) (same_fact_refl g)) ∙ e)))
          (either (same_fact g f))

      abbrev Knows : Assignment → Type 0
      Knows e = (f : Fact) → Memᴰ f e → Known (domains w) f

      -- along the facts that a step writes, g has the step as its last writer where it is one of them
      last_each : (e : Assignment) (traces : List ℕ) → length traces ≡ trace_start most_facts → Knows e
          → last_of (traces_wrote j latest e traces) ≡ cond (has e g) j (last_of traces)
      unfolding traces_wrote has some_of
      last_each [] traces sized knows = refl
      last_each (f ∷ e) traces sized knows =
          last_each e after (trace_sized latest (fact_word f) traces ∙ sized) (λ h m. knows h (Memᴰ.tail m))
          ∙ ⊎_elim by_same (λ (different, other). rw (different, (others_stay f traces other).0)) (same_or_apart f (knows f (Memᴰ.head refl)))
        where
          after : List ℕ
          after = trace_wrote j latest (fact_word f) traces

          written_last : last_of (trace_wrote j latest (fact_word g) traces) ≡ j
          written_last =
              ⊎_elim
              (λ up. let is : last_of traces ≡ j = eqb-true _ _ up in rw (written_stays traces is) is)
              (λ down. (new_written traces sized (eqb-false _ _ down)).0)
              (either (eqb (last_of traces) j))

          one : (b : Bool) → cond b j j ≡ j
          one true = refl
          one false = refl

          by_same : g ≡ f → cond (has e g) j (last_of after) ≡ cond (same_fact g f || has e g) j (last_of traces)
          by_same same = rw (← same, same_fact_refl g, written_last) (one (has e g))

      -- once it is, its support stays
      support_stays : (e : Assignment) (traces : List ℕ) → last_of traces ≡ j → Knows e → support_of (traces_wrote j latest e traces) ≡ support_of traces
      unfolding traces_wrote
      support_stays [] traces written knows = refl
      support_stays (f ∷ e) traces written knows =
          ⊎_elim
          (λ same. rw (← same, written_stays traces written) (support_stays e traces written (λ h m. knows h (Memᴰ.tail m))))
          (λ (different, other).
          support_stays e (trace_wrote j latest (fact_word f) traces) ((others_stay f traces other).0 ∙ written) (λ h m. knows h (Memᴰ.tail m))
          ∙ (others_stay f traces other).1)
          (same_or_apart f (knows f (Memᴰ.head refl)))

      -- and it is the one that it gets where it is written first
      support_each : (e : Assignment) (traces : List ℕ) → length traces ≡ trace_start most_facts → last_of traces ≢ j → Knows e
          → support_of (traces_wrote j latest e traces) ≡ cond (has e g) (new_support traces) (support_of traces)
      unfolding traces_wrote has some_of
      support_each [] traces sized unwritten knows = refl
      support_each (f ∷ e) traces sized unwritten knows =
          ⊎_elim
          (λ same.
          let (last, support) = new_written traces sized unwritten in
          rw (← same, same_fact_refl g) (support_stays e (trace_wrote j latest (fact_word g) traces) last (λ h m. knows h (Memᴰ.tail m)) ∙ support))
          (λ (different, other).
          let (last, support) = others_stay f traces other in
          support_each e (trace_wrote j latest (fact_word f) traces) (trace_sized latest (fact_word f) traces ∙ sized) (λ is. unwritten (sym last ∙ is))
          (λ h m. knows h (Memᴰ.tail m))
          ∙ rw (different, last, support))
          (same_or_apart f (knows f (Memᴰ.head refl)))

    -- the words of the variables along the facts that a marked step writes
    until_each : (e : Assignment) (t : Tables) → Sized t → ((f : Fact) → Memᴰ f e → Known (domains w) f) → (g : Fact) → Known (domains w) g
        → until_at (latest_each j e t.latest) (fact_word g) ≡ cond (some_of (other_value g) e) (suc j) (read t g).until
    unfolding latest_each latest_wrote some_of
    until_each [] t sized knows g known = refl
    until_each (f ∷ e) t sized knows g known =
        let next : Tables = tables t.traces (latest_wrote j (fact_word f) t.latest) in
        until_each e next (record { traces = sized.traces; latest = wrote_sized }) (λ h m. knows h (Memᴰ.tail m)) g known
        ∙ rw (until_marked t sized j f g (knows f (Memᴰ.head refl)) known) (either_other (some_of (other_value g) e) (other_value g f))
      where
        wrote_sized : length (latest_wrote j (fact_word f) t.latest) ≡ latest_start limits.variables
        wrote_sized = simp length-set sized.latest

        either_other : (later here : Bool) → cond later (suc j) (cond here (suc j) (read t g).until) ≡ cond (here || later) (suc j) (read t g).until
        either_other true true = refl
        either_other true false = refl
        either_other false true = refl
        either_other false false = refl

  -- behind a step whose effects are written the tables tell the traces behind it
  module _ (a : Action) (j : ℕ) (marked : Bool) (t : Tables) (sized : Sized t) where
    pub step_sized : Sized (wrote_each j marked (written a) (written_always a) t)
    unfolding wrote_each
    step_sized = record { traces = traces_sized j t.latest (written a) t.traces ∙ sized.traces; latest = by_mark marked }
      where
        by_mark : (b : Bool) → length (cond b (latest_each j (written_always a) t.latest) t.latest) ≡ latest_start limits.variables
        by_mark false = sized.latest
        by_mark true = latest_sized j (written_always a) t.latest ∙ sized.latest

    pub step_read : (g : Fact) → ActionFormed (domains w) a → Known (domains w) g → (read t g).last ≢ j
        → read (wrote_each j marked (written a) (written_always a) t) g ≡ passed a j marked g (read t g)
    unfolding wrote_each passed sets_other supporting
    step_read g formed known unwritten =
        λ i. record { last = last i; until = until marked i; support = support i }
      where
        last : get_or (traces_wrote j t.latest (written a) t.traces) (trace_start (fact_word g)) 0 ≡ cond (has (written a) g) j (read t g).last
        last = last_each j t.latest g known (written a) t.traces sized.traces formed.known

        until : (b : Bool) → until_at (cond b (latest_each j (written_always a) t.latest) t.latest) (fact_word g)
            ≡ cond (b && some_of (other_value g) (written_always a)) (suc j) (read t g).until
        until false = refl
        until true = until_each j (written_always a) t sized (λ f m. formed.known f (always_may a m)) g known

        support : get_or (traces_wrote j t.latest (written a) t.traces) (trace_start (fact_word g) + 1) 0
            ≡ cond (has (written a) g) (cond (ltb (read t g).last (read t g).until) j 0) (read t g).support
        support = support_each j t.latest g known (written a) t.traces sized.traces unwritten formed.known
