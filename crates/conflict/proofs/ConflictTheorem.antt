-- Effects whose facts don't fall conflict just where one of them clashes with one behind it. Of two effects that conflict one stands behind the other, and conflict
-- is the same either way round; behind an effect, those of its own fact come first and conflict with none, then those of its variable at other values, which a
-- table tells, then those of higher variables. By induction along the effects. Assumes nothing.
use Prim.Native.Nat.{ℕ, suc, ◌*◌, ◌/◌, ◌≤◌, ◌<◌}
use native.Mathlib.Omega.{arith}
use mathlib.Core.Path.{◌≡◌, refl, sym, ◌∙◌, subst}
use mathlib.Core.Logic.{⊎_elim}
use mathlib.Core.Bool.{Bool, true, false, true≢false, false≢true, not, ◌||◌, and-eq-true_iff, and-false}
use mathlib.Core.List.Memᴰ
use mathlib.Core.List.{List, [], ◌∷◌, ◌++◌, map, Memᴰ}
use lib.Dec.{eqb}
use borrow.Author.Tests.{eqb-true, eqb-false, not-true}
use Rattle.sas.specs.Task.{Fact, Assignment, State, Effect, Action}
use Rattle.sas.specs.Plan.{assign}
use Rattle.sas.specs.Conflict.{some_of, differ, contradictory, conflict, conflicting}
use Rattle.sas.proofs.SomeLaws.{or_cases, found, found_passes, none_found}
use Rattle.sheet.specs.Limits.{limits}
use Rattle.sheet.specs.Between.Encode.{fact_word, Unfalling, nothing}
use Rattle.sheet.specs.Between.Encode.Unfalling.{not_below}
use Rattle.conflict.specs.Between.Table.{denies}
use Rattle.conflict.specs.Between.Clash.{beyond, some_fits, clashes, some_clash}
use Rattle.conflict.proofs.DifferLaws.{differ_there, differ_back, differ_apart, differ_alike, contradicts_among}
use Rattle.conflict.proofs.SaidLaws.{Holdable, table_of, denied_at_once, told_by_both}
use Rattle.conflict.proofs.ClashLaws.{beyond_nothing, beyond_more, beyond_here}

-- effects of edition 2 as they are decoded: a table can hold each condition, and each fact is at a value
pub record Decoded (e : Effect) : Type 0 where
  pub condition : Holdable e.condition
  pub value : e.fact.value < limits.values

-- effects whose facts don't differ don't conflict
alike : (q : Assignment) (d e : Effect) → differ d.fact e.fact ≡ false → conflict q d e ≡ false
unfolding conflict
alike q d e same = rw same

-- an effect does not conflict with itself
itself : (q : Assignment) (d : Effect) → conflict q d d ≡ false
itself q d = alike q d d (differ_alike d.fact d.fact refl)

-- and two conflict either way round
back : (q : Assignment) (d e : Effect) → conflict q d e ≡ true → conflict q e d ≡ true
unfolding conflict
back q d e h =
    let (apart, fit) = (and-eq-true_iff (differ d.fact e.fact) (not (contradictory (q ++ (d.condition ++ e.condition))))).0 h in
    rw (differ_back d.fact e.fact apart, by_case (contradictory (q ++ (e.condition ++ d.condition))) refl (not-true _ fit))
  where
    among : (f : Fact) → Memᴰ f (q ++ (e.condition ++ d.condition)) → Memᴰ f (q ++ (d.condition ++ e.condition))
    among f m =
        ⊎_elim
        (λ one. Memᴰ.append_left (d.condition ++ e.condition) one)
        (λ two. Memᴰ.append_right q (⊎_elim (λ k. Memᴰ.append_right d.condition k) (λ k. Memᴰ.append_left e.condition k) (Memᴰ.append_cases e.condition two)))
        (Memᴰ.append_cases q m)

    by_case : (b : Bool) → contradictory (q ++ (e.condition ++ d.condition)) ≡ b → contradictory (q ++ (d.condition ++ e.condition)) ≡ false → b ≡ false
    by_case true k fits = absurd (true≢false (sym (contradicts_among _ _ among k) ∙ fits))
    by_case false k fits = refl

-- some effect conflicts with one behind it
unfoldable some_later : Assignment → List Effect → Bool
some_later q [] = false
some_later q (d ∷ es) = some_of (conflict q d) es || some_later q es

-- effects that conflict
record Pair (q : Assignment) (es : List Effect) : Type 0 where
  one : Effect
  two : Effect
  first : Memᴰ one es
  second : Memᴰ two es
  meet : conflict q one two ≡ true

later_pair : (q : Assignment) (es : List Effect) → some_later q es ≡ true → Pair q es
unfolding some_later
later_pair q [] h = absurd (false≢true h)
later_pair q (d ∷ es) h =
    ⊎_elim
    (λ here. let (e, m, meets) = found_passes (conflict q d) es here in record { one = d; two = e; first = Memᴰ.head refl; second = Memᴰ.tail m; meet = meets })
    (λ later.
    let p = later_pair q es later in
    record { one = p.one; two = p.two; first = Memᴰ.tail p.first; second = Memᴰ.tail p.second; meet = p.meet })
    (or_cases (some_of (conflict q d) es) (some_later q es) h)

or_right : (a b : Bool) → b ≡ true → (a || b) ≡ true
or_right true b h = refl
or_right false b h = h

pair_later : (q : Assignment) (d e : Effect) {es : List Effect} → Memᴰ d es → Memᴰ e es → conflict q d e ≡ true → some_later q es ≡ true
unfolding some_later
pair_later q d e (Memᴰ.head {x = x} one) (Memᴰ.head two) h = absurd (false≢true (sym (itself q x) ∙ rw (one, two) at h))
pair_later q d e (Memᴰ.head {x = x} {xs = es} one) (Memᴰ.tail two) h = rw (found (conflict q x) two (rw one at h))
pair_later q d e (Memᴰ.tail {x = x} {xs = es} one) (Memᴰ.head two) h = rw (found (conflict q x) one (back q d x (rw two at h)))
pair_later q d e (Memᴰ.tail {x = x} {xs = es} one) (Memᴰ.tail two) h = or_right (some_of (conflict q x) es) (some_later q es) (pair_later q d e one two h)

-- so of effects that conflict one stands behind the other
later_enough : (q : Assignment) (es : List Effect) → some_later q es ≡ some_of (λ d. some_of (conflict q d) es) es
later_enough q es = by_case (some_later q es) refl (some_of (λ d. some_of (conflict q d) es) es) refl
  where
    by_case : (a : Bool) → some_later q es ≡ a → (b : Bool) → some_of (λ d. some_of (conflict q d) es) es ≡ b → a ≡ b
    by_case true h true k = refl
    by_case false h false k = refl
    by_case true h false k =
        let p = later_pair q es h in
        absurd (true≢false (sym (found (λ d. some_of (conflict q d) es) p.first (found (conflict q p.one) p.second p.meet)) ∙ k))
    by_case false h true k =
        let (d, m, some) = found_passes (λ d. some_of (conflict q d) es) es k in
        let (e, n, meets) = found_passes (conflict q d) es some in
        absurd (true≢false (sym (pair_later q d e m n meets) ∙ h))

-- facts that don't fall: the first is not below the bound, the others are not below the first, and so none is
unfalling_first : {from : ℕ} {f : Fact} {q : Assignment} → Unfalling from (f ∷ q) → from ≤ fact_word f
unfalling_first (not_below low rest) = low

unfalling_rest : {from : ℕ} {f : Fact} {q : Assignment} → Unfalling from (f ∷ q) → Unfalling (fact_word f) q
unfalling_rest (not_below low rest) = rest

unfalling_above : {from : ℕ} {q : Assignment} {f : Fact} → Unfalling from q → Memᴰ f q → from ≤ fact_word f
unfalling_above {f = f} (nothing {from = from}) x4 = elim x4 [ ]
unfalling_above (not_below low rest) (Memᴰ.head same) = rw same low
unfalling_above (not_below {f = g} low rest) (Memᴰ.tail later) = omega (arith, unfalling_above rest later)

-- the facts of effects, as words from a number on, in order
abbrev pub InOrder : ℕ → List Effect → Type 0
InOrder from es = Unfalling from (map (λ e. e.fact) es)

abbrev pub AllDecoded : List Effect → Type 0
AllDecoded es = (e : Effect) → Memᴰ e es → Decoded e

others : {e : Effect} {es : List Effect} → AllDecoded (e ∷ es) → AllDecoded es
others small d m = small d (Memᴰ.tail m)

-- one effect, under a precondition, against those behind it
module _ (q : Assignment) (d : Effect) (needs : Holdable q) (own : Decoded d) where
  -- its fact's word
  abbrev x : ℕ
  x = fact_word d.fact

  -- the table of the precondition and its condition
  abbrev t : State
  t = assign (table_of q) d.condition

  -- none of a higher variable conflicts with it
  none_higher : (es : List Effect) (from : ℕ) → AllDecoded es → suc d.fact.variable * limits.values ≤ from → InOrder from es → some_of (conflict q d) es ≡ false
  none_higher es from small high order =
      none_found (conflict q d) es
      (λ e m. alike q d e (differ_apart d.fact e.fact (λ same. omega (arith, unfalling_above order (Memᴰ.map (λ k. k.fact) m), (small e m).value))))

  -- where the precondition denies its condition, none does
  none_denied : (es : List Effect) → some_of (denies (table_of q)) d.condition ≡ true → some_of (conflict q d) es ≡ false
  unfolding conflict
  none_denied es denied =
      none_found (conflict q d) es
      (λ e m. rw (denied_at_once q d.condition e.condition needs own.condition denied) (and-false (differ d.fact e.fact)))

  -- where it does not, the table of both tells
  module _ (passed : some_of (denies (table_of q)) d.condition ≡ false) where
    meets : (e : Effect) → Decoded e → differ d.fact e.fact ≡ true → conflict q d e ≡ not (some_of (denies t) e.condition)
    unfolding conflict
    meets e small apart = rw (apart, told_by_both q d.condition e.condition needs own.condition small.condition passed)

    -- behind the effects of its fact, those of its variable come first
    fits_higher : (es : List Effect) (from : ℕ) → AllDecoded es → x < from → InOrder from es → some_fits t d.fact.variable es ≡ some_of (conflict q d) es
    unfolding some_fits some_of
    fits_higher [] from small above order = refl
    fits_higher (e ∷ es) from small above order =
        by_case (fits_higher es (fact_word e.fact) (others small) (omega (arith, unfalling_first order)) (unfalling_rest order)) (eqb e.fact.variable d.fact.variable) refl
      where
        by_case : some_fits t d.fact.variable es ≡ some_of (conflict q d) es → (b : Bool) → eqb e.fact.variable d.fact.variable ≡ b
            → some_fits t d.fact.variable (e ∷ es) ≡ some_of (conflict q d) (e ∷ es)
        by_case later true h =
            let same : e.fact.variable ≡ d.fact.variable = eqb-true _ _ h in
            let apart : differ d.fact e.fact ≡ true = differ_there d.fact e.fact (sym same) (λ alike. omega (arith, unfalling_first order)) in
            rw (h, meets e (small e (Memᴰ.head refl)) apart, later)
        by_case later false h =
            let apart : differ d.fact e.fact ≡ false = differ_apart d.fact e.fact (λ same. eqb-false _ _ h (sym same)) in
            let high : suc d.fact.variable * limits.values ≤ fact_word e.fact =
            omega (arith, eqb-false e.fact.variable d.fact.variable h, unfalling_first order, (small e (Memᴰ.head refl)).value) in
            rw (h, alike q d e apart, none_higher es (fact_word e.fact) (others small) high (unfalling_rest order))

    -- those of its fact don't conflict with it, and are passed
    fits_beyond : (es : List Effect) → AllDecoded es → InOrder x es → some_fits t d.fact.variable (beyond x es) ≡ some_of (conflict q d) es
    unfolding some_fits some_of
    fits_beyond [] small order = rw (beyond_nothing x)
    fits_beyond (e ∷ es) small order = by_case (λ o. fits_beyond es (others small) o) (eqb (fact_word e.fact) x) refl
      where
        by_case : (InOrder x es → some_fits t d.fact.variable (beyond x es) ≡ some_of (conflict q d) es) → (b : Bool) → eqb (fact_word e.fact) x ≡ b
            → some_fits t d.fact.variable (beyond x (e ∷ es)) ≡ some_of (conflict q d) (e ∷ es)
        by_case later true h =
            let same : fact_word e.fact ≡ x = eqb-true _ _ h in
            let value : d.fact.value ≡ e.fact.value = omega (arith, own.value, (small e (Memᴰ.head refl)).value) in
            rw (beyond_more x e es same, alike q d e (differ_alike d.fact e.fact value)) (later (subst (λ n. InOrder n es) same (unfalling_rest order)))
        by_case later false h =
            let above : x < fact_word e.fact = omega (arith, eqb-false (fact_word e.fact) x h, unfalling_first order) in
            rw (beyond_here x e es (eqb-false _ _ h))
            (fits_higher (e ∷ es) (fact_word e.fact) small above (not_below {from = fact_word e.fact} {f = e.fact} (omega arith) (unfalling_rest order)))

  -- so it clashes just where it conflicts
  clash_told : (es : List Effect) → AllDecoded es → InOrder x es → clashes q d (beyond x es) ≡ some_of (conflict q d) es
  unfolding clashes
  clash_told es small order = by_case (some_of (denies (table_of q)) d.condition) refl
    where
      by_case : (b : Bool) → some_of (denies (table_of q)) d.condition ≡ b → clashes q d (beyond x es) ≡ some_of (conflict q d) es
      by_case true h = rw (h, none_denied es h)
      by_case false h =
          let variable : x / limits.values ≡ d.fact.variable = omega (arith, own.value) in
          rw (h, variable) (fits_beyond h es small order)

-- all effects, each in turn
clash_later_told : (q : Assignment) (es : List Effect) (from : ℕ) → Holdable q → AllDecoded es → InOrder from es → some_clash q es ≡ some_later q es
unfolding some_clash some_later
clash_later_told q [] from needs small order = refl
clash_later_told q (d ∷ es) from needs small order =
    let own : Decoded d = small d (Memᴰ.head refl) in
    rw (clash_told q d needs own es (others small) (unfalling_rest order), clash_later_told q es (fact_word d.fact) needs (others small) (unfalling_rest order))

-- effects conflict just where one clashes with one behind it
pub clash_conflicting : (a : Action) → Holdable a.precondition → AllDecoded a.effects → InOrder 0 a.effects → some_clash a.precondition a.effects ≡ conflicting a
unfolding conflicting
clash_conflicting a needs small order = clash_later_told a.precondition a.effects 0 needs small order ∙ later_enough a.precondition a.effects
