-- Which facts act in a state, and which are written always: membership, and what is the same in two states; no two acting facts of an applicable action
-- disagree, where none of its effects conflict, since what would contradict both conditions does not hold; what a plain action does is all that it may.
-- By list induction. Assumes nothing.
use mathlib.Core.Path.{◌≡◌, refl, sym, ◌∙◌, ap}
use mathlib.Core.Logic.{⊎_elim}
use mathlib.Core.Bool.{Bool, true, false, true≢false}
use mathlib.Core.List.Memᴰ
use mathlib.Core.List.{List, [], ◌∷◌, ◌++◌, map, Memᴰ}
use lib.ListN.{get_or}
use lib.Dec.{eqb}
use borrow.Author.Tests.{eqb-true, eq-eqb}
use Prim.Native.Nat.{ℕ}
use Rattle.sas.specs.Task.{Fact, Assignment, State, Effect, always, Action}
use Rattle.sas.specs.Plan.{holds, satisfies, applicable, acting, unconditional, written, written_always, may_write, always_writes}
use Rattle.sas.specs.Conflict.{some_of, differ, contradictory, conflict, conflicting}
use Rattle.sas.specs.Between.WellFormed.{Agreeing, Plain}
use Rattle.sas.proofs.FactLaws.{holds_value, satisfied_holds, satisfies_nothing}
use Rattle.sas.proofs.SomeLaws.{found, none_found}

pub acting_nothing : (s : State) → acting s [] ≡ []
unfolding acting
acting_nothing s = refl

-- an effect whose condition holds acts
pub acting_more : (s : State) (e : Effect) (es : List Effect) → satisfies s e.condition ≡ true → acting s (e ∷ es) ≡ e.fact ∷ acting s es
unfolding acting
acting_more s e es h = rw (h, acting)

-- one whose condition does not hold does nothing
pub acting_less : (s : State) (e : Effect) (es : List Effect) → satisfies s e.condition ≡ false → acting s (e ∷ es) ≡ acting s es
unfolding acting
acting_less s e es h = rw (h, acting)

-- an effect that acts, of a fact
pub record Acts (s : State) (es : List Effect) (f : Fact) : Type 0 where
  pub effect : Effect
  pub among : Memᴰ effect es
  pub holds_there : satisfies s effect.condition ≡ true
  pub of_fact : effect.fact ≡ f

-- a fact that acts is that of an effect that does
pub acting_why : {f : Fact} (s : State) (es : List Effect) → Memᴰ f (acting s es) → Acts s es f
acting_why {f} s [] m = absurd (Memᴰ.not-nil (rw (acting_nothing s) at m))
acting_why {f} s (e ∷ es) m = by_case (λ n. acting_why s es n) (satisfies s e.condition) refl
  where
    later : Acts s es f → Acts s (e ∷ es) f
    later a = record { effect = a.effect; among = Memᴰ.tail a.among; holds_there = a.holds_there; of_fact = a.of_fact }

    first : satisfies s e.condition ≡ true → (Memᴰ f (acting s es) → Acts s es f) → Memᴰ f (e.fact ∷ acting s es) → Acts s (e ∷ es) f
    first h rest (Memᴰ.head same) = record { effect = e; among = Memᴰ.head refl; holds_there = h; of_fact = sym same }
    first h rest (Memᴰ.tail n) = later (rest n)

    by_case : (Memᴰ f (acting s es) → Acts s es f) → (b : Bool) → satisfies s e.condition ≡ b → Acts s (e ∷ es) f
    by_case rest true h = first h rest (rw (acting_more s e es h) at m)
    by_case rest false h = later (rest (rw (acting_less s e es h) at m))

-- and the fact of an effect whose condition holds acts
pub acts_there : {e : Effect} (s : State) (es : List Effect) → Memᴰ e es → satisfies s e.condition ≡ true → Memᴰ e.fact (acting s es)
acts_there {e} s [] m h = elim m [ ]
acts_there {e} s (d ∷ es) (Memᴰ.head same) h =
    rw (acting_more s d es (ap (λ x. satisfies s x.condition) (sym same) ∙ h)) (Memᴰ.head (ap (λ x. x.fact) same))
acts_there {e} s (d ∷ es) (Memᴰ.tail later) h = by_case (acts_there s es later h) (satisfies s d.condition) refl
  where
    by_case : Memᴰ e.fact (acting s es) → (b : Bool) → satisfies s d.condition ≡ b → Memᴰ e.fact (acting s (d ∷ es))
    by_case rest true k = rw (acting_more s d es k) (Memᴰ.tail rest)
    by_case rest false k = rw (acting_less s d es k) rest

-- what acts may be written
pub acting_written : {f : Fact} (s : State) (a : Action) → Memᴰ f (acting s a.effects) → may_write a f
unfolding written
acting_written s a m =
    let why = acting_why s a.effects m in
    Memᴰ.cast (sym why.of_fact) (Memᴰ.map (λ e. e.fact) why.among)

-- effects whose conditions hold alike in two states act alike
pub acting_alike : (s t : State) (es : List Effect) → ((e : Effect) → Memᴰ e es → satisfies s e.condition ≡ satisfies t e.condition) → acting s es ≡ acting t es
acting_alike s t [] alike = acting_nothing s ∙ sym (acting_nothing t)
acting_alike s t (e ∷ es) alike = by_case (acting_alike s t es (λ d m. alike d (Memᴰ.tail m))) (satisfies s e.condition) refl
  where
    same : satisfies s e.condition ≡ satisfies t e.condition
    same = alike e (Memᴰ.head refl)

    by_case : acting s es ≡ acting t es → (b : Bool) → satisfies s e.condition ≡ b → acting s (e ∷ es) ≡ acting t (e ∷ es)
    by_case rest true h = acting_more s e es h ∙ ap (λ q. e.fact ∷ q) rest ∙ sym (acting_more t e es (sym same ∙ h))
    by_case rest false h = acting_less s e es h ∙ rest ∙ sym (acting_less t e es (sym same ∙ h))

-- a fact that is written always acts in every state
unconditional_acts : {f : Fact} (s : State) (es : List Effect) → Memᴰ f (unconditional es) → Memᴰ f (acting s es)
unfolding unconditional acting
unconditional_acts s [] m = m
unconditional_acts {f} s (e ∷ es) m = by_case (λ n. unconditional_acts s es n) e.condition refl
  where
    first : (Memᴰ f (unconditional es) → Memᴰ f (acting s es)) → Memᴰ f (e.fact ∷ unconditional es) → Memᴰ f (e.fact ∷ acting s es)
    first rest (Memᴰ.head same) = Memᴰ.head same
    first rest (Memᴰ.tail n) = Memᴰ.tail (rest n)

    passed : Memᴰ f (acting s es) → (b : Bool) → satisfies s e.condition ≡ b → Memᴰ f (acting s (e ∷ es))
    passed n true h = rw (acting_more s e es h) (Memᴰ.tail n)
    passed n false h = rw (acting_less s e es h) n

    by_case : (Memᴰ f (unconditional es) → Memᴰ f (acting s es)) → (q : Assignment) → e.condition ≡ q → Memᴰ f (acting s (e ∷ es))
    by_case rest [] same = rw (acting_more s e es (ap (satisfies s) same ∙ satisfies_nothing s)) (first rest (rw (same, unconditional) at m))
    by_case rest (g ∷ q) same = passed (rest (rw (same, unconditional) at m)) (satisfies s e.condition) refl

pub always_acts : {f : Fact} (s : State) (a : Action) → always_writes a f → Memᴰ f (acting s a.effects)
unfolding written_always
always_acts s a w = unconditional_acts s a.effects w

-- so it may be written
pub always_may : {f : Fact} (a : Action) → always_writes a f → may_write a f
always_may a w = acting_written [] a (always_acts [] a w)

-- two facts of one variable that both hold have one value
pub one_value : (s : State) (f g : Fact) → f.variable ≡ g.variable → holds s f ≡ true → holds s g ≡ true → f.value ≡ g.value
one_value s f g same h k = sym (holds_value s f h) ∙ ap (λ v. get_or s v 0) same ∙ holds_value s g k

-- facts of one variable that don't differ have one value
differ_none : (f g : Fact) → differ f g ≡ false → f.variable ≡ g.variable → f.value ≡ g.value
unfolding differ
differ_none f g h same = by_case (eqb f.value g.value) refl
  where
    by_case : (b : Bool) → eqb f.value g.value ≡ b → f.value ≡ g.value
    by_case true e = eqb-true _ _ e
    by_case false e = let both : differ f g ≡ true = rw (eq-eqb f.variable g.variable same, e) in absurd (true≢false (sym both ∙ h))

-- facts that agree don't contradict each other
pub agreeing_holds : {q : Assignment} → Agreeing q → contradictory q ≡ false
unfolding contradictory differ
agreeing_holds {q} agree = none_found (λ f. some_of (differ f) q) q (λ f m. none_found (differ f) q (λ g n. by_case f g m n (eqb f.variable g.variable) refl))
  where
    by_case : (f g : Fact) → Memᴰ f q → Memᴰ g q → (b : Bool) → eqb f.variable g.variable ≡ b → differ f g ≡ false
    by_case f g m n false e = rw e
    by_case f g m n true e = rw (e, eq-eqb f.value g.value (agree f g m n (eqb-true _ _ e)))

-- facts that all hold don't contradict each other
pub holding_agree : (s : State) (q : Assignment) → ((f : Fact) → Memᴰ f q → holds s f ≡ true) → contradictory q ≡ false
holding_agree s q all = agreeing_holds (λ f g m n same. one_value s f g same (all f m) (all g n))

-- no two acting facts of an applicable action disagree, where none of its effects conflict: refusal 16 makes the order of acting facts indifferent
pub acting_agrees : (s : State) (a : Action) → conflicting a ≡ false → applicable s a ≡ true → Agreeing (acting s a.effects)
unfolding conflicting conflict applicable
acting_agrees s a consistent able f g m n same = by_case (differ f g) refl
  where
    d : Acts s a.effects f
    d = acting_why s a.effects m

    e : Acts s a.effects g
    e = acting_why s a.effects n

    all : Assignment
    all = a.precondition ++ (d.effect.condition ++ e.effect.condition)

    hold : (h : Fact) → Memᴰ h all → holds s h ≡ true
    hold h k =
        ⊎_elim
        (λ pre. satisfied_holds s able pre)
        (λ both. ⊎_elim (λ one. satisfied_holds s d.holds_there one) (λ two. satisfied_holds s e.holds_there two) (Memᴰ.append_cases d.effect.condition both))
        (Memᴰ.append_cases a.precondition k)

    by_case : (b : Bool) → differ f g ≡ b → f.value ≡ g.value
    by_case false h = differ_none f g h same
    by_case true h =
        let there : differ d.effect.fact e.effect.fact ≡ true = rw (d.of_fact, e.of_fact) h in
        let meets : conflict a.precondition d.effect e.effect ≡ true = rw (there, holding_agree s all hold) in
        let inner = found (conflict a.precondition d.effect) e.among meets in
        absurd (true≢false (sym (found (λ x. some_of (conflict a.precondition x) a.effects) d.among inner) ∙ consistent))

-- effects without a condition all act
pub each_acts : (s : State) (q : Assignment) → acting s (map always q) ≡ q
each_acts s [] = acting_nothing s
each_acts s (f ∷ q) = acting_more s (always f) (map always q) (satisfies_nothing s) ∙ ap (λ r. f ∷ r) (each_acts s q)

pub each_always : (q : Assignment) → unconditional (map always q) ≡ q
unfolding unconditional
each_always [] = refl
each_always (f ∷ q) = ap (λ r. f ∷ r) (each_always q)

-- and their facts are what was given
pub each_written : (q : Assignment) → map (λ e. e.fact) (map always q) ≡ q
each_written [] = refl
each_written (f ∷ q) = ap (λ r. f ∷ r) (each_written q)

module _ {domains : List ℕ} (a : Action) (plain : Plain domains a) where
  -- all that a plain action may write acts in every state
  pub plain_acting : (s : State) → acting s a.effects ≡ written a
  plain_acting s = ap (acting s) plain.without_condition ∙ each_acts s (written a)

  -- and is written always
  pub plain_always : written_always a ≡ written a
  unfolding written_always
  plain_always = ap unconditional plain.without_condition ∙ each_always (written a)
